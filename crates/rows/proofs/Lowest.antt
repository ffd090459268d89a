-- A sum of n rows takes the n lowest bits of a number and no other.
-- Assumes nothing.
use mathlib.Core.Path.{◌≡◌}
use mathlib.Core.List.{List}
use Prim.Native.Nat.{ℕ, ◌%◌, ◌^◌, ◌<◌}
use lib.Bits.{xor_mod}
use lib.Dec.{T}
use Rattle.binary.specs.Words.{row_sum}
use Rattle.binary.proofs.Tests.{all}
use Rattle.binary.proofs.Linear.{additive_after, row_sum-add, same_at, agree}

pub lowest :
    (n : ℕ) (rows : List ℕ)
    → T (all (same_at (λ w. row_sum rows (w % 2 ^ n)) (row_sum rows)) 32)
    → (w : ℕ)
    → w < 2 ^ 32
    → row_sum rows (w % 2 ^ n) ≡ row_sum rows w
lowest n rows =
    agree (λ w. row_sum rows (w % 2 ^ n)) (row_sum rows)
    (additive_after (row_sum rows) (λ w. w % 2 ^ n) (row_sum-add rows) (λ a b. xor_mod a b n)) (row_sum-add rows) 32
