-- Against any word a reading has a filling that differs from it at every zero.
-- Assumes nothing.
use mathlib.Core.Path.{◌≡◌, refl, sym, ap, ◌∙◌}
use mathlib.Core.Bool.{Bool, true, false}
use mathlib.Core.List.{List, [], ◌∷◌}
use Prim.Native.Nat.{ℕ, suc, ◌+◌, ◌*◌, ◌/◌, ◌%◌, ◌^◌, ◌≤◌, ◌<◌}
use native.Mathlib.Nat.{one-mul, zero-mul, mod-lt}
use native.Mathlib.Omega.{arith}
use lib.IntN.{ℤ}
use lib.ListN.{length}
use lib.Pow.{pow_pos, split}
use lib.Bits.{bit_xor, xor_lt, xor_block, xor_zero_l, xor_zero_r}
use Rattle.signed.specs.Sign.{sign}
use Rattle.binary.specs.Words.{ones, distance}
use Rattle.binary.proofs.Xor.{two_cases}
use Rattle.binary.proofs.Ones.{ones_beyond}
use Rattle.binary.proofs.Places.{ones-top}
use Rattle.binary.proofs.Linear.{top-bit_lt}
use Rattle.contest.specs.Words.{one}
use Rattle.contest.proofs.Numbers.{one_small}
use Rattle.signs.specs.Fillings.{is_zero, zeros, Filling}
use Rattle.signs.proofs.Zeros.{zero_is}
use Rattle.signs.proofs.Fillings.{filling_cons}

-- ---- ones of a word with one bit more

module _ (n v : ℕ) (h : v < 2 ^ n) where
  same-ones : ones (suc n) (0 * 2 ^ n + v) ≡ ones n v
  same-ones =
      let e : 0 * 2 ^ n + v ≡ v = omega (arith, zero-mul (2 ^ n)) in
      ap (ones (suc n)) e ∙ ones_beyond n (suc n) v h (omega arith)

  one_more : ones (suc n) (1 * 2 ^ n + v) ≡ suc (ones n v)
  one_more =
      ones-top (record { place = omega arith; below = h; whole = omega (arith, one-mul (2 ^ n)) })
      ∙ ap suc (ones_beyond n (suc n) v h (omega arith))

  no_fewer : (k : ℕ) → k < 2 → ones n v ≤ ones (suc n) (k * 2 ^ n + v)
  no_fewer = two_cases (λ k. ones n v ≤ ones (suc n) (k * 2 ^ n + v)) (omega (arith, same-ones)) (omega (arith, one_more))

-- ---- the filling

abbrev Opposite : List ℤ → ℕ → Type 0
Opposite xs c = (word : ℕ) × Filling xs word × (zeros xs ≤ distance (length xs) word c)

module _ (x : ℤ) (xs : List ℤ) (c : ℕ) (h : c < 2 ^ suc (length xs)) (rest : Opposite xs (c % 2 ^ length xs)) where
  abbrev n : ℕ
  n = length xs

  -- where the rest differs
  abbrev v : ℕ
  v = bit_xor rest.0 (c % 2 ^ n)

  v_lt : v < 2 ^ n
  v_lt = xor_lt n rest.0 (c % 2 ^ n) rest.1.short (mod-lt c (pow_pos n))

  -- with a bit k before it, where c has b
  differs : (k b : ℕ) → c / 2 ^ n ≡ b → bit_xor (k * 2 ^ n + rest.0) c ≡ bit_xor k b * 2 ^ n + v
  differs k b e =
      ap (bit_xor (k * 2 ^ n + rest.0)) (sym (split c n) ∙ ap (λ (j : ℕ). j * 2 ^ n + c % 2 ^ n) e)
      ∙ xor_block n k b rest.0 (c % 2 ^ n) rest.1.short (mod-lt c (pow_pos n))

  further : (k b : ℕ) → c / 2 ^ n ≡ b → bit_xor k b ≡ 1 → is_zero x ≡ true → zeros (x ∷ xs) ≤ distance (suc n) (k * 2 ^ n + rest.0) c
  unfolding zeros
  further k b e f z =
      omega
      (arith, ap one z, rest.2, ap (ones (suc n)) (differs k b e ∙ ap (λ (j : ℕ). j * 2 ^ n + v) f), one_more n v v_lt)

  at_zero : is_zero x ≡ true → (b : ℕ) → b < 2 → c / 2 ^ n ≡ b → Opposite (x ∷ xs) c
  at_zero z =
      two_cases (λ b. c / 2 ^ n ≡ b → Opposite (x ∷ xs) c)
      (λ e. (1 * 2 ^ n + rest.0, filling_cons x xs {b = 1} (omega arith) (λ m. absurd (m (zero_is x z))) rest.1, further 1 0 e (xor_zero_r 1) z))
      (λ e. (0 * 2 ^ n + rest.0, filling_cons x xs {b = 0} (omega arith) (λ m. absurd (m (zero_is x z))) rest.1, further 0 1 e (xor_zero_l 1) z))

  at_sign : is_zero x ≡ false → Opposite (x ∷ xs) c
  unfolding zeros
  at_sign z =
      let l = one (sign x) in
      let b = c / 2 ^ n in
      let k = xor_lt 1 l b (one_small (sign x)) (top-bit_lt n c h) in (
        l * 2 ^ n + rest.0,
        filling_cons x xs (one_small (sign x)) (λ m. refl) rest.1,
        omega (arith, ap one z, rest.2, ap (ones (suc n)) (differs l b refl), no_fewer n v v_lt (bit_xor l b) k),
      )

  opposite_cons : (b : Bool) → is_zero x ≡ b → Opposite (x ∷ xs) c
  opposite_cons true z = at_zero z (c / 2 ^ n) (top-bit_lt n c h) refl
  opposite_cons false z = at_sign z

pub opposite : (xs : List ℤ) (c : ℕ) → c < 2 ^ length xs → Opposite xs c
unfolding zeros
opposite [] c h = (0, record { short = omega arith; agrees = λ i g m. absurd (omega arith) }, omega arith)
opposite (x ∷ xs) c h = opposite_cons x xs c h (opposite xs (c % 2 ^ length xs) (mod-lt c (pow_pos (length xs)))) (is_zero x) refl
