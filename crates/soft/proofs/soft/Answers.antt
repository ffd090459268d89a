-- A reading that is not refused is a valid one, and the two largest of its correlations decide.
use Rattle.reading.proofs.Calls.{passed}
use Rattle.soft.proofs.Answering.{wide}
use Rattle.soft.proofs.Rules.{soft-check, soft_decides}
use Rattle.soft.proofs.soft.Goals as goal
use Rattle.std.proofs.Common.{rules}

pub returns-in_err-check : goal.returns-in_err-check
returns-in_err-check c = search (rules, soft-check)

pub answered-requires : goal.answered-requires
answered-requires c = let X = c.in_ok-check.ensures.valid in wide X (c.two_largest.ensures _ X.long c.column_sums-sums.ensures)

pub returns : goal.returns
returns c =
    let xs = c.args.reading.now in
    let X = c.in_ok-check.ensures.valid in
    let (l, e) = passed xs c.in_ok-check.ensures.answer in
    soft_decides xs l e (c.answered.ensures xs X (c.two_largest.ensures xs X.long c.column_sums-sums.ensures))
