-- Laws of words of any length: a sum has at most the ones of both, which is the triangle inequality of the distance; a word without ones is
-- zero; and any other word has a highest place, which, taken off, leaves one fewer.
-- Assumes nothing.
use mathlib.Core.Path.{◌≡◌, sym, ap, ap₂, ◌∙◌}
use mathlib.Core.Logic.{◌⊎◌, inl, inr, ⊎_elim}
use Prim.Native.Nat.{ℕ, zero, suc, ◌+◌, ◌-◌, ◌*◌, ◌/◌, ◌%◌, ◌^◌, ◌≤◌, ◌<◌, zero-le}
use native.Mathlib.Nat.{le_of_suc-le-suc, not-suc-le-zero, zero-lt-suc, pow-suc, add-suc, one-mul}
use native.Mathlib.Omega.{arith}
use lib.Arith.{lt-one}
use lib.Bits.{bit_xor, xor_shr, xor_mod, xor_add_and, block_half, block_odd}
use Rattle.binary.specs.Words.{ones}
use Rattle.binary.proofs.Ones.{half_lt, ones_zero}

pub le_or_lt : (a b : ℕ) → (a ≤ b) ⊎ (b < a)
le_or_lt zero b = inl zero-le
le_or_lt (suc a) zero = inr (zero-lt-suc a)
le_or_lt (suc a) (suc b) = ⊎_elim (λ h. inl (omega arith)) (λ h. inr (omega arith)) (le_or_lt a b)

pub ones-xor : (n a b : ℕ) → ones n (bit_xor a b) ≤ ones n a + ones n b
unfolding ones
ones-xor zero a b = omega arith
ones-xor (suc n) a b =
    omega (arith, xor_mod a b 1, xor_add_and (a % 2) (b % 2), ap (ones n) (xor_shr a b 1), ones-xor n (a / 2) (b / 2))

pub no_ones : (n w : ℕ) → w < 2 ^ n → ones n w ≤ 0 → w ≡ 0
unfolding ones
no_ones zero w h l = lt-one h
no_ones (suc n) w h l = let e : w / 2 ≡ 0 = no_ones n (w / 2) (half_lt n w h) (omega arith) in omega arith

pub ones-positive : (n w : ℕ) → 0 < ones n w → 0 < w
ones-positive n zero h = omega (arith, ones_zero n)
ones-positive n (suc w) h = zero-lt-suc w

-- ---- the highest place

-- a word whose highest place is i, with what stands below it
pub record Top (n w i low : ℕ) : Type 0 where
  pub place : i < n
  pub below : low < 2 ^ i
  pub whole : w ≡ 2 ^ i + low

pub top : (n w : ℕ) → 0 < w → w < 2 ^ n → (i low : ℕ) × Top n w i low
top zero w p h = let e : ⊥ = omega arith in absurd e
top (suc n) w p h =
    ⊎_elim
    (λ g. (n, w - 2 ^ n, record { place = omega arith; below = omega (arith, rw pow-suc at h); whole = omega arith }))
    (λ g. let (i, low, t) = top n w p g in (i, low, record { place = omega (arith, t.place); below = t.below; whole = t.whole }))
    (le_or_lt (2 ^ n) w)

block_ones : (n i low : ℕ) → i < n → low < 2 ^ i → ones n (1 * 2 ^ i + low) ≡ suc (ones n low)
unfolding ones
block_ones zero i low h g = absurd (not-suc-le-zero h)
block_ones (suc n) zero low h g = let z : low ≡ 0 = lt-one g in rw z (omega arith)
block_ones (suc n) (suc i) low h g =
    ap₂ (λ (x y : ℕ). x + ones n y) (block_odd 1 i low) (block_half 1 i low)
    ∙ ap (λ (x : ℕ). low % 2 + x) (block_ones n i (low / 2) (le_of_suc-le-suc h) (half_lt i low g))
    ∙ add-suc (low % 2) (ones n (low / 2))

pub ones-top : {n w i low : ℕ} → Top n w i low → ones n w ≡ suc (ones n low)
ones-top {n} {w} {i} {low} t =
    ap (ones n) (t.whole ∙ ap (λ (x : ℕ). x + low) (sym (one-mul (2 ^ i)))) ∙ block_ones n i low t.place t.below
