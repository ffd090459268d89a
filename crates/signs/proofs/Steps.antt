-- From a subset of the zeros to the next lower one: one is taken off, and of what is left the zeros are kept.
-- Assumes nothing.
use mathlib.Core.Path.{◌≡◌, refl, sym, ap, ◌∙◌, subst}
use mathlib.Core.Logic.{◌⊎◌, inl, inr}
use mathlib.Core.Bool.{true}
use mathlib.Core.List.{List, [], ◌∷◌}
use Prim.Native.Nat.{ℕ, ◌+◌, ◌-◌, ◌*◌, ◌^◌, ◌≤◌, ◌<◌}
use native.Mathlib.Nat.{one-mul, zero-mul, mod-eq_of_lt}
use native.Mathlib.Omega.{arith}
use native.Mathlib.Decide.{dec_lt}
use lib.IntN.{ℤ}
use lib.ListN.{length}
use lib.Pow.{pow_pos}
use lib.Bits.{bit_and, and_block, and_comm, and_mask, and_zero_l}
use Rattle.contest.specs.Words.{one}
use Rattle.signs.specs.Signs.{marked}
use Rattle.signs.specs.Fillings.{is_zero, zero_word}
use Rattle.signs.proofs.Zeros.{marked_lt}
use Rattle.signs.proofs.Fillings.{Raised, Subset, subset_all, subset_le, subset_lt}

-- t is the highest of the subsets below s
pub record Lower (xs : List ℤ) (s t : ℕ) : Type 0 where
  pub subset : Subset xs t
  pub highest : (v : ℕ) → Subset xs v → v < s → v ≤ t

abbrev Step : List ℤ → ℕ → Type 0
Step xs s = Lower xs s (bit_and (s - 1) (zero_word xs))

module _ (x : ℤ) (xs : List ℤ) where
  abbrev n : ℕ
  n = length xs

  -- one less, of which no more than n bits are there
  below : (s : ℕ) → s ≤ 2 ^ n → 0 < s → bit_and (s - 1) (zero_word (x ∷ xs)) ≡ bit_and (s - 1) (zero_word xs)
  unfolding marked
  below s h p =
      let e : s - 1 ≡ 0 * 2 ^ n + (s - 1) = omega (arith, zero-mul (2 ^ n)) in
      ap (λ (k : ℕ). bit_and k (zero_word (x ∷ xs))) e
      ∙ and_block n 0 (one (is_zero x)) (s - 1) (zero_word xs) (omega arith) (marked_lt is_zero xs)
      ∙ omega (arith, ap (λ (k : ℕ). k * 2 ^ n) (and_zero_l (one (is_zero x))), zero-mul (2 ^ n))

  -- one less, where the place of x stays
  above : (t : ℕ) → is_zero x ≡ true → t < 2 ^ n → 0 < t → bit_and (2 ^ n + t - 1) (zero_word (x ∷ xs)) ≡ 2 ^ n + bit_and (t - 1) (zero_word xs)
  unfolding marked
  above t z h p =
      let e : 2 ^ n + t - 1 ≡ 1 * 2 ^ n + (t - 1) = omega (arith, one-mul (2 ^ n)) in
      ap (λ (k : ℕ). bit_and k (zero_word (x ∷ xs))) e
      ∙ and_block n 1 (one (is_zero x)) (t - 1) (zero_word xs) (omega arith) (marked_lt is_zero xs)
      ∙ omega (arith, ap (λ b. bit_and 1 (one b) * 2 ^ n) z, one-mul (2 ^ n))

  -- nothing but the place of x: what comes next are all the other zeros
  rest : bit_and (2 ^ n - 1) (zero_word xs) ≡ zero_word xs
  rest = and_comm (2 ^ n - 1) (zero_word xs) ∙ and_mask (zero_word xs) n ∙ mod-eq_of_lt (marked_lt is_zero xs)

  without : (s : ℕ) → Subset xs s → 0 < s → Step xs s → Step (x ∷ xs) s
  unfolding Subset
  without s c p L =
      let h = subset_lt xs s c in
      subst (Lower (x ∷ xs) s) (sym (below s (omega arith) p)) (record { subset = inl L.subset; highest = highest h })
    where
      highest : s < 2 ^ n → (v : ℕ) → Subset xs v ⊎ Raised x xs (Subset xs) v → v < s → v ≤ bit_and (s - 1) (zero_word xs)
      highest h v (inl d) l = L.highest v d l
      highest h v (inr (t, z, e, d)) l = absurd (omega arith)

  with_more : (s t : ℕ) → is_zero x ≡ true → s ≡ 2 ^ n + t → Subset xs t → 0 < t → Step xs t → Step (x ∷ xs) s
  unfolding Subset
  with_more s t z e c p L =
      let f = ap (λ (k : ℕ). bit_and (k - 1) (zero_word (x ∷ xs))) e ∙ above t z (subset_lt xs t c) p in
      subst (Lower (x ∷ xs) s) (sym f) (record { subset = inr (bit_and (t - 1) (zero_word xs), z, refl, L.subset); highest = highest })
    where
      highest : (v : ℕ) → Subset xs v ⊎ Raised x xs (Subset xs) v → v < s → v ≤ 2 ^ n + bit_and (t - 1) (zero_word xs)
      highest v (inl d) l = omega (arith, subset_lt xs v d)
      highest v (inr (u, y, g, d)) l = omega (arith, L.highest u d (omega arith))

  with_none : (s : ℕ) → s ≡ 2 ^ n → Step (x ∷ xs) s
  unfolding Subset
  with_none s e =
      let f = below s (omega arith) (omega (arith, pow_pos n)) ∙ ap (λ (k : ℕ). bit_and (k - 1) (zero_word xs)) e ∙ rest in
      subst (Lower (x ∷ xs) s) (sym f) (record { subset = inl (subset_all xs); highest = highest })
    where
      highest : (v : ℕ) → Subset xs v ⊎ Raised x xs (Subset xs) v → v < s → v ≤ zero_word xs
      highest v (inl d) l = subset_le xs v d
      highest v (inr (u, y, g, d)) l = absurd (omega arith)

pub step_lower : (xs : List ℤ) (s : ℕ) → Subset xs s → 0 < s → Step xs s
unfolding Subset
step_lower [] s c p = absurd (omega (arith, c))
step_lower (x ∷ xs) s (inl c) p = without x xs s c p (step_lower xs s c p)
step_lower (x ∷ xs) s (inr (t, z, e, c)) p = go (dec_lt 0 t) (step_lower xs t c)
  where
    go : Dec (0 < t) → (0 < t → Step xs t) → Step (x ∷ xs) s
    go (yes q) L = with_more x xs s t z e c q (L q)
    go (no q) L = with_none x xs s (omega arith)
