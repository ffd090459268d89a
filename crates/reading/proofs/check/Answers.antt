-- The tests are the rule's.
use Rattle.std.proofs.Common.{sym, ◌∙◌}
use borrow.Author.Tests.{eq-eqb, ne_eqb}
use Rattle.reading.specs.Calls.{check_rule}
use Rattle.reading.proofs.check.Goals as goal

pub returns-then-reading-ne-POSITIONS-clause-answer : goal.returns-then-reading-ne-POSITIONS-clause-answer
unfolding check_rule
returns-then-reading-ne-POSITIONS-clause-answer c = simp (ne_eqb _ 24 c.if-reading-ne-POSITIONS.true)

pub returns-then-most_negative-clause-answer : goal.returns-then-most_negative-clause-answer
unfolding check_rule
returns-then-most_negative-clause-answer c = simp (eq-eqb _ 24 c.if-reading-ne-POSITIONS.false, sym c.most_negative.ensures.is ∙ c.if-most_negative.true)

pub returns-clause-answer : goal.returns-clause-answer
unfolding check_rule
returns-clause-answer c = simp (eq-eqb _ 24 c.if-reading-ne-POSITIONS.false, sym c.most_negative.ensures.is ∙ c.if-most_negative.false)
