-- Once the loop has passed the column, it holds its sum.
use Rattle.std.proofs.Common.{◌≡◌, ◌<◌}
use Rattle.rows.specs.Columns.{column_syndrome}
use Rattle.rows.proofs.column_syndrome.Given as goal

abbrev pub invariant-loop-i : goal.invariant-loop-i
invariant-loop-i l = l.column < l.i → l.found ≡ column_syndrome l.fn.rows l.column
