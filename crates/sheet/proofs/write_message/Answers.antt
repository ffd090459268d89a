-- Where the count is 0 there is no line, and nothing changes.
use Rattle.std.proofs.Common.{rules}
use borrow.Author.Tests.{eq-eqb}
use Rattle.sheet.proofs.Lines.{message-short, writes_nothing}
use Rattle.sheet.proofs.write_message.Goals as goal

pub returns-then-count-eq0-clause-writes : goal.returns-then-count-eq0-clause-writes
returns-then-count-eq0-clause-writes c = simp (eq-eqb _ _ c.if-count-eq0.true) (writes_nothing c.args.out.now c.args.at)

pub returns-clause-count_len_bound : goal.returns-clause-count_len_bound
returns-clause-count_len_bound c = message-short c.args.message c.args.count (search rules) (search rules)
