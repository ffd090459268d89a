-- Laws of the number of ones: zero has none, places above a word add none, and the language counts the same.
-- Assumes nothing.
use mathlib.Core.Path.{◌≡◌, refl, ap, ◌∙◌}
use Prim.Native.Nat.{ℕ, zero, suc, ◌+◌, ◌*◌, ◌/◌, ◌%◌, ◌^◌, ◌≤◌, ◌<◌}
use native.Mathlib.Nat.{pow-suc, zero-add}
use native.Mathlib.Omega.{arith}
use lib.Arith.{lt-one}
use lib.Count as count
use Rattle.binary.specs.Words.{ones}

pub ones_zero : (n : ℕ) → ones n 0 ≡ 0
unfolding ones
ones_zero zero = refl
ones_zero (suc n) = zero-add (ones n 0) ∙ ones_zero n

pub half_lt : (n w : ℕ) → w < 2 ^ suc n → w / 2 < 2 ^ n
half_lt n w h = let b : w < 2 ^ n * 2 = rw pow-suc at h in omega arith

pub ones_beyond : (n k w : ℕ) → w < 2 ^ n → n ≤ k → ones k w ≡ ones n w
unfolding ones
ones_beyond zero k w h l = ap (ones k) (lt-one h) ∙ ones_zero k
ones_beyond (suc n) zero w h l = let e : ⊥ = omega arith in absurd e
ones_beyond (suc n) (suc k) w h l = ap (λ (x : ℕ). w % 2 + x) (ones_beyond n k (w / 2) (half_lt n w h) (omega arith))

-- what the language counts in a number below 2^n
pub ones-counted : (n w : ℕ) → w < 2 ^ n → count.ones w ≡ ones n w
unfolding ones count.ones
ones-counted zero w h = ap count.ones (lt-one h)
ones-counted (suc n) w h = count.ones_step w ∙ ap (λ (x : ℕ). w % 2 + x) (ones-counted n (w / 2) (half_lt n w h))
