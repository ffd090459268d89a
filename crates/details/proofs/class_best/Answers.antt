-- The class's six sums, settled.
use Rattle.std.proofs.Common.{arith}
use Rattle.details.proofs.Sizing.{few, picks-six, in_order}
use Rattle.details.proofs.class_best.Goals as goal

pub settled-requires-clause-few : goal.settled-requires-clause-few
settled-requires-clause-few c =
    let a = c.args in
    few 6 c.class_sizes.ensures (omega (arith, picks-six a.sums.now.values a.class)) (omega arith)

pub returns : goal.returns
returns c =
    let a = c.args in
    c.settled.ensures _ _ c.class_sizes.ensures (picks-six a.sums.now.values a.class) (in_order a.sums.now.values a.class)
