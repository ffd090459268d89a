-- The codes of the sums passed stand in their places.
use Rattle.columns.specs.Places.{Filled}
use Rattle.figures.specs.Figures.{CodeAt}
use Rattle.figures.proofs.SumCodes.of_sums.Given as goal

abbrev pub invariant-loop-n : goal.invariant-loop-n
invariant-loop-n l = Filled 0 (CodeAt l.sums.values) l.n 48 l.values
