-- No run comes farther than its bytes.
-- Assumes nothing.
use Rattle.std.proofs.Common.{arith}
use Rattle.counting.proofs.Decided.{counted_near}
use Rattle.report.proofs.CountsOffsetTurns.last.Goals as goal

pub note-requires : goal.note-requires
note-requires c = omega (arith, counted_near c.count_records-counted.ensures, c.requires.offset_bound)
