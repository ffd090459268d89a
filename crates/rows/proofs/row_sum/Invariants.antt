-- The sum so far, with the rows that are left at the bits that are left, is the whole.
use Rattle.std.proofs.Common.{drop, ◌≡◌}
use Rattle.std.specs.Int.Bits.{bit_xor}
use Rattle.binary.specs.Words.{row_sum}
use Rattle.rows.proofs.row_sum.Given as goal

abbrev pub invariant-loop-row : goal.invariant-loop-row
invariant-loop-row l = bit_xor l.sum (row_sum (drop l.row-index l.rows) l.left) ≡ row_sum l.fn.rows l.fn.word
