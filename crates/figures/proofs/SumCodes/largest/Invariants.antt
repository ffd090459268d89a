-- What is kept of the figures of the classes passed.
use Rattle.std.proofs.Common.{◌*◌}
use Rattle.figures.specs.Figures.{figure_at, KeptUpTo}
use Rattle.figures.proofs.SumCodes.largest.Given as goal

abbrev pub invariant-loop-q : goal.invariant-loop-q
invariant-loop-q l = KeptUpTo (figure_at l.self.values) (4 * l.q) l.t
