-- What finding answers is what the rule goes by, and applying its pattern is not refused.
-- Assumes nothing.
use Rattle.std.proofs.Common.{rules}
use Rattle.hard.proofs.Found.{finds_answer}
use Rattle.hard.proofs.Calls.{corrects_refused, corrects-four, corrects_nearer, applied, not-refused}
use Rattle.hard.proofs.correct.Goals as goal

pub returns-in_err-pattern : goal.returns-in_err-pattern
returns-in_err-pattern c = search (rules, corrects_refused)

pub returns-then-distance-eq4 : goal.returns-then-distance-eq4
returns-then-distance-eq4 c = corrects-four (finds_answer c.in_ok-pattern.ensures) c.if-distance-eq4.true

pub returns-in_err-apply : goal.returns-in_err-apply
returns-in_err-apply c =
    let f = finds_answer c.in_ok-pattern.ensures in absurd (not-refused f.low f.rule.word c.in_err-apply.ensures)

pub returns : goal.returns
returns c =
    let f = finds_answer c.in_ok-pattern.ensures in
    rw (applied f.low f.rule.word c.in_ok-apply.ensures) (corrects_nearer f c.if-distance-eq4.false)
