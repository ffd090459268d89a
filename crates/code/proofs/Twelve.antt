-- Rule 3.6's table: the codewords of the twelve messages with a single bit, by a test of each against the column rule (3.4).
-- Assumes nothing.
use mathlib.Core.List.{List, [], ◌∷◌}
use Prim.Native.Nat.{ℕ}
use lib.Dec.{T}
use Rattle.binary.specs.Words.{row_sum}
use Rattle.binary.proofs.Tests.{all}
use Rattle.binary.proofs.Linear.{same_at}
use Rattle.code.specs.Code.{codeword_of}

-- from message 001 up to message 800
abbrev pub codeword_rows : List ℕ
codeword_rows =
    0x0000FF ∷ 0x000F0F ∷ 0x00F00F ∷ 0x0F000F ∷ 0xF0000F ∷ 0x003333 ∷ 0x005555 ∷ 0x030356 ∷ 0x050563 ∷ 0x300365 ∷ 0x500536 ∷ 0x777778 ∷ []

pub twelve_codewords : T (all (same_at codeword_of (row_sum codeword_rows)) 12)
unfolding codeword_of
twelve_codewords = tt
