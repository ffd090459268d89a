-- A step of the keeper.
use Rattle.std.proofs.Common.{refl, arith}
use Rattle.figures.specs.Figures.{figure_from}
use Rattle.figures.proofs.Keeping.{took, kept_next}
use Rattle.figures.proofs.OtherPairs.take_four.Goals as goal

pub loop-k-preserved : goal.loop-k-preserved
loop-k-preserved c f is K =
    let P = c.args.self.now in
    let first = c.args.first in
    let k = c.loop-k.k in
    let F = c.figure.ensures in
    kept_next {g = figure_from P.sums P.leasts first.sum first.least} refl (is k (omega arith) (omega arith))
    (took (F.value, F.within) (c.take-t.ensures.kept, c.take-t.ensures.value)) (c.loop-k.invariant f is K)
