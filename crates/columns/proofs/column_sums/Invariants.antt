-- The sums of the columns passed stand in their places.
use Rattle.columns.specs.Columns.{SumsUpTo}
use Rattle.columns.proofs.column_sums.Given as goal

abbrev pub invariant-loop-i : goal.invariant-loop-i
invariant-loop-i l = SumsUpTo l.reading l.i l.values
