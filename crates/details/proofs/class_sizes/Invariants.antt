-- The value is what the columns passed come to.
use Rattle.columns.specs.Columns.{picks, front}
use Rattle.details.specs.Details.{Held}
use Rattle.details.proofs.class_sizes.Given as goal

abbrev pub invariant-loop-i : goal.invariant-loop-i
invariant-loop-i l = Held (picks l.sums.values l.p (front l.i l.x)) l.t
