-- The fillings of a reading are its word of signs with a subset of its zeros added to it. There are as many as two to the number of zeros.
-- Assumes nothing.
use mathlib.Core.Path.{◌≡◌, refl, sym, ap, ◌∙◌, subst}
use mathlib.Core.Logic.{◌≢◌, ◌⊎◌, inl, inr}
use mathlib.Core.Bool.{Bool, true, false}
use mathlib.Core.List.{List, [], ◌∷◌}
use Prim.Native.Nat.{ℕ, zero, suc, ◌+◌, ◌-◌, ◌*◌, ◌/◌, ◌%◌, ◌^◌, ◌≤◌, ◌<◌}
use native.Mathlib.Nat.{one-mul, zero-mul, pow-suc, mod-lt, mod-eq_of_lt}
use native.Mathlib.Numerals.{one-add}
use native.Mathlib.Omega.{arith}
use native.Mathlib.Decide.{dec_lt}
use lib.IntN.{ℤ, pos}
use lib.ListN.{length, get_or}
use lib.Pow.{pow_pos, split, high, low, field, mod-mod-pow}
use Rattle.signed.specs.Sign.{sign}
use Rattle.contest.specs.Words.{one}
use Rattle.binary.proofs.Xor.{two_cases}
use Rattle.binary.proofs.Linear.{top-bit_lt}
use Rattle.contest.proofs.Numbers.{one_small}
use Rattle.signs.specs.Signs.{marked, sign_word}
use Rattle.signs.specs.Fillings.{is_zero, zeros, zero_word, Filling, HowMany}
use Rattle.signs.proofs.Zeros.{zero_is, other_than_zero, marked_lt}

-- ---- a filling, by its first bit and the rest

-- a bit below the n-th does not ask what stands above
low_bit : (word k n : ℕ) → k < n → word % 2 ^ n / 2 ^ k % 2 ≡ word / 2 ^ k % 2
low_bit word k n h =
    let j = n - (k + 1) in
    let e : n ≡ j + 1 + k = omega arith in
    ap (λ (m : ℕ). word % 2 ^ m / 2 ^ k % 2) e
    ∙ ap (λ (m : ℕ). m % 2) (field word (j + 1) k)
    ∙ mod-mod-pow (word / 2 ^ k) j 1

module _ (x : ℤ) (xs : List ℤ) where
  pub filling_cons : {b word : ℕ} → b < 2 → (x ≢ pos 0 → b ≡ one (sign x)) → Filling xs word → Filling (x ∷ xs) (b * 2 ^ length xs + word)
  filling_cons {b} {word} small first F = record {
    short =
        omega (
          arith,
          two_cases (λ c. c * 2 ^ length xs ≤ 2 ^ length xs) (omega (arith, zero-mul (2 ^ length xs))) (omega (arith, one-mul (2 ^ length xs))) b small,
          pow-suc 2 (length xs),
          F.short,
        );
    agrees = agrees;
  }
    where
      agrees :
          (i : ℕ)
          → i < suc (length xs)
          → get_or (x ∷ xs) i (pos 0) ≢ pos 0
          → (b * 2 ^ length xs + word) / 2 ^ (suc (length xs) - (i + 1)) % 2 ≡ one (sign (get_or (x ∷ xs) i (pos 0)))
      agrees zero h n =
          let e : suc (length xs) - (0 + 1) ≡ length xs = omega arith in
          ap (λ (k : ℕ). (b * 2 ^ length xs + word) / 2 ^ k % 2) e
          ∙ ap (λ (m : ℕ). m % 2) (high b (length xs) F.short)
          ∙ mod-eq_of_lt small ∙ first n
      agrees (suc i) h n =
          let k = length xs - (i + 1) in
          let e : suc (length xs) - (suc i + 1) ≡ k = omega arith in
          ap (λ (m : ℕ). (b * 2 ^ length xs + word) / 2 ^ m % 2) e
          ∙ sym (low_bit (b * 2 ^ length xs + word) k (length xs) (omega arith))
          ∙ ap (λ (m : ℕ). m / 2 ^ k % 2) (low b (length xs) F.short)
          ∙ F.agrees i (omega arith) n

  module _ {word : ℕ} (F : Filling (x ∷ xs) word) where
    filling_rest : Filling xs (word % 2 ^ length xs)
    filling_rest = record {
      short = mod-lt word (pow_pos (length xs));
      agrees = λ i h n.
          let e : suc (length xs) - (suc i + 1) ≡ length xs - (i + 1) = omega arith in
          low_bit word (length xs - (i + 1)) (length xs) (omega arith)
          ∙ ap (λ (k : ℕ). word / 2 ^ k % 2) (sym e)
          ∙ F.agrees (suc i) (omega arith) n;
    }

    filling_bit : word / 2 ^ length xs < 2
    filling_bit = top-bit_lt (length xs) word F.short

    filling_first : x ≢ pos 0 → word / 2 ^ length xs ≡ one (sign x)
    filling_first n =
        let e : suc (length xs) - (0 + 1) ≡ length xs = omega arith in
        sym (mod-eq_of_lt filling_bit) ∙ ap (λ (k : ℕ). word / 2 ^ k % 2) (sym e) ∙ F.agrees 0 (omega arith) n

-- ---- subsets of the zeros

-- one place more than a word of which something is known, at a zero before all its places
abbrev pub Raised : ℤ → List ℤ → (ℕ → Type 0) → ℕ → Type 0
Raised x xs Known s = (t : ℕ) × (is_zero x ≡ true) × (s ≡ 2 ^ length xs + t) × Known t

-- some of the zeros, as a word
unfoldable pub Subset : List ℤ → ℕ → Type 0
Subset [] s = s ≡ 0
Subset (x ∷ xs) s = Subset xs s ⊎ Raised x xs (Subset xs) s

-- all
pub subset_all : (xs : List ℤ) → Subset xs (zero_word xs)
unfolding Subset marked
subset_all [] = refl
subset_all (x ∷ xs) = go (is_zero x) refl (subset_all xs)
  where
    go : (b : Bool) → is_zero x ≡ b → Subset xs (zero_word xs)
        → Subset xs (one b * 2 ^ length xs + zero_word xs) ⊎ Raised x xs (Subset xs) (one b * 2 ^ length xs + zero_word xs)
    go true e all = inr (zero_word xs, e, omega (arith, one-mul (2 ^ length xs)), all)
    go false e all = inl (subst (Subset xs) (omega (arith, zero-mul (2 ^ length xs))) all)

-- none
pub subset_none : (xs : List ℤ) → Subset xs 0
unfolding Subset
subset_none [] = refl
subset_none (x ∷ xs) = inl (subset_none xs)

pub subset_le : (xs : List ℤ) (s : ℕ) → Subset xs s → s ≤ zero_word xs
unfolding Subset marked
subset_le [] s c = omega (arith, c)
subset_le (x ∷ xs) s (inl c) = omega (arith, subset_le xs s c)
subset_le (x ∷ xs) s (inr (t, z, e, c)) = omega (arith, ap (λ (b : Bool). one b * 2 ^ length xs) z, one-mul (2 ^ length xs), e, subset_le xs t c)

pub subset_lt : (xs : List ℤ) (s : ℕ) → Subset xs s → s < 2 ^ length xs
subset_lt xs s c = omega (arith, subset_le xs s c, marked_lt is_zero xs)

-- ---- a filling is the word of signs with a subset of the zeros added

pub subset_filling : (xs : List ℤ) (s : ℕ) → Subset xs s → Filling xs (sign_word xs + s)
unfolding Subset marked
subset_filling [] s c = record { short = omega (arith, c); agrees = λ i h n. absurd (omega arith) }
subset_filling (x ∷ xs) s (inl c) =
    subst (Filling (x ∷ xs)) (omega arith) (filling_cons x xs (one_small (sign x)) (λ n. refl) (subset_filling xs s c))
subset_filling (x ∷ xs) s (inr (t, z, e, c)) =
    let e₀ : one (sign x) * 2 ^ length xs ≡ 0 = ap (λ (y : ℤ). one (sign y) * 2 ^ length xs) (zero_is x z) ∙ zero-mul (2 ^ length xs) in
    subst (Filling (x ∷ xs)) (omega (arith, e, e₀, one-mul (2 ^ length xs)))
    (filling_cons x xs {b = 1} (omega arith) (λ n. absurd (n (zero_is x z))) (subset_filling xs t c))

-- a word that is the word of signs with a subset added
abbrev Added : List ℤ → ℕ → Type 0
Added xs word = (s : ℕ) × (word ≡ sign_word xs + s) × Subset xs s

module _ (x : ℤ) (xs : List ℤ) {word : ℕ} (F : Filling (x ∷ xs) word) (rest : Added xs (word % 2 ^ length xs)) where
  abbrev n : ℕ
  n = length xs

  -- the word by the bit that it has first
  begins : {b : ℕ} → word / 2 ^ n ≡ b → word ≡ b * 2 ^ n + (sign_word xs + rest.0)
  begins {b} e = sym (split word n) ∙ ap (λ (k : ℕ). k * 2 ^ n + word % 2 ^ n) e ∙ ap (λ (k : ℕ). b * 2 ^ n + k) rest.1

  by_sign : is_zero x ≡ false → Added (x ∷ xs) word
  unfolding Subset marked
  by_sign e = (rest.0, omega (arith, begins (filling_first x xs F (other_than_zero x e))), inl rest.2)

  by_zero : is_zero x ≡ true → (b : ℕ) → b < 2 → word / 2 ^ n ≡ b → Added (x ∷ xs) word
  unfolding Subset marked
  by_zero e b small f =
      let e₀ : one (sign x) * 2 ^ n ≡ 0 = ap (λ (y : ℤ). one (sign y) * 2 ^ n) (zero_is x e) ∙ zero-mul (2 ^ n) in
      two_cases (λ c. word / 2 ^ n ≡ c → Added (x ∷ xs) word)
      (λ g. (rest.0, omega (arith, begins g, e₀, zero-mul (2 ^ n)), inl rest.2))
      (λ g. (2 ^ n + rest.0, omega (arith, begins g, e₀, one-mul (2 ^ n)), inr (rest.0, e, refl, rest.2)))
      b small f

  by_first : (b : Bool) → is_zero x ≡ b → Added (x ∷ xs) word
  by_first false e = by_sign e
  by_first true e = by_zero e (word / 2 ^ n) (filling_bit x xs F) refl

pub filling_subset : (xs : List ℤ) (word : ℕ) → Filling xs word → Added xs word
unfolding Subset marked
filling_subset [] word F = (0, omega (arith, F.short), refl)
filling_subset (x ∷ xs) word F = by_first x xs F (filling_subset xs (word % 2 ^ length xs) (filling_rest x xs F)) (is_zero x) refl

-- ---- how many

module _ (x : ℤ) (xs : List ℤ) {m : ℕ} (H : HowMany (Subset xs) m) where
  -- without the zero, and then with it
  half : (k : ℕ) → Dec (k < m) → ℕ
  half k (yes h) = H.at k
  half k (no h) = 2 ^ length xs + H.at (k - m)

  half-each : is_zero x ≡ true → (k : ℕ) → k < m + m → (d : Dec (k < m)) → Subset (x ∷ xs) (half k d)
  unfolding half Subset
  half-each z k h (yes l) = inl (H.each k l)
  half-each z k h (no l) = inr (H.at (k - m), z, refl, H.each (k - m) (omega arith))

  half-every : (s : ℕ) → Subset (x ∷ xs) s → (k : ℕ) × (k < m + m) × (half k (dec_lt k m) ≡ s)
  unfolding half Subset
  half-every s (inl c) = let (k, h, e) = H.every s c in (k, omega arith, first k h e (dec_lt k m))
    where
      first : (k : ℕ) → k < m → H.at k ≡ s → (d : Dec (k < m)) → half k d ≡ s
      first k h e (yes l) = e
      first k h e (no l) = absurd (l h)
  half-every s (inr (t, z, f, c)) = let (k, h, e) = H.every t c in (m + k, omega arith, second k e (dec_lt (m + k) m))
    where
      second : (k : ℕ) → H.at k ≡ t → (d : Dec (m + k < m)) → half (m + k) d ≡ s
      second k e (yes l) = absurd (omega arith)
      second k e (no l) =
          let g : m + k - m ≡ k = omega arith in
          ap (λ (j : ℕ). 2 ^ length xs + H.at j) g ∙ ap (λ (j : ℕ). 2 ^ length xs + j) e ∙ sym f

  half-once : (j k : ℕ) → j < m + m → k < m + m → (d : Dec (j < m)) (e : Dec (k < m)) → half j d ≡ half k e → j ≡ k
  unfolding half
  half-once j k p q (yes a) (yes b) f = H.once j k a b f
  half-once j k p q (yes a) (no b) f = absurd (omega (arith, subset_lt xs (H.at j) (H.each j a), f))
  half-once j k p q (no a) (yes b) f = absurd (omega (arith, subset_lt xs (H.at k) (H.each k b), f))
  half-once j k p q (no a) (no b) f = omega (arith, H.once (j - m) (k - m) (omega arith) (omega arith) (omega arith))

  twice_as_many : is_zero x ≡ true → HowMany (Subset (x ∷ xs)) (m + m)
  twice_as_many z = record {
    at = λ k. half k (dec_lt k m);
    each = λ k h. half-each z k h (dec_lt k m);
    every = half-every;
    once = λ j k p q. half-once j k p q (dec_lt j m) (dec_lt k m);
  }

  as_many : is_zero x ≡ false → HowMany (Subset (x ∷ xs)) m
  unfolding Subset
  as_many f = record { at = H.at; each = λ k h. inl (H.each k h); every = every; once = H.once }
    where
      every : (s : ℕ) → Subset xs s ⊎ Raised x xs (Subset xs) s → (k : ℕ) × (k < m) × (H.at k ≡ s)
      every s (inl c) = H.every s c
      every s (inr (t, z, e, c)) = absurd (other_than_zero x f (zero_is x z))

subsets_counted : (xs : List ℤ) → HowMany (Subset xs) (2 ^ zeros xs)
unfolding Subset zeros
subsets_counted [] = record {
  at = λ k. 0;
  each = λ k h. refl;
  every = λ s e. (0, omega arith, sym e);
  once = λ j k p q e. omega arith;
}
subsets_counted (x ∷ xs) = go (is_zero x) refl (subsets_counted xs)
  where
    go : (b : Bool) → is_zero x ≡ b → HowMany (Subset xs) (2 ^ zeros xs) → HowMany (Subset (x ∷ xs)) (2 ^ (one b + zeros xs))
    go true e H =
        let f : 2 ^ zeros xs + 2 ^ zeros xs ≡ 2 ^ (1 + zeros xs) =
        omega (arith, pow-suc 2 (zeros xs), ap (λ (k : ℕ). 2 ^ k) (one-add (zeros xs))) in
        subst (HowMany (Subset (x ∷ xs))) f (twice_as_many x xs H e)
    go false e H = subst (λ (k : ℕ). HowMany (Subset (x ∷ xs)) (2 ^ k)) (omega arith) (as_many x xs H e)

-- Rule 9.2: a reading with z zeros has two to the z fillings
pub fillings-counted : (xs : List ℤ) → HowMany (Filling xs) (2 ^ zeros xs)
fillings-counted xs = record {
  at = λ k. sign_word xs + H.at k;
  each = λ k h. subset_filling xs (H.at k) (H.each k h);
  every = λ word F.
      let (s, e, c) = filling_subset xs word F in
      let (k, h, f) = H.every s c in
      (k, h, ap (λ (t : ℕ). sign_word xs + t) f ∙ sym e);
  once = λ j k p q e. H.once j k p q (omega arith);
}
  where
    H : HowMany (Subset xs) (2 ^ zeros xs)
    H = subsets_counted xs

pub sign_filling : (xs : List ℤ) → Filling xs (sign_word xs)
sign_filling xs = subst (Filling xs) (omega arith) (subset_filling xs 0 (subset_none xs))

-- a reading without zeros has one filling, its word of signs
pub filling_alone : (xs : List ℤ) → zeros xs ≡ 0 → (word : ℕ) → Filling xs word → word ≡ sign_word xs
filling_alone xs z word F =
    let H : HowMany (Filling xs) 1 = subst (λ (k : ℕ). HowMany (Filling xs) (2 ^ k)) z (fillings-counted xs) in
    let (j, p, e) = H.every word F in
    let (k, q, f) = H.every (sign_word xs) (sign_filling xs) in
    let same : j ≡ k = omega arith in
    sym e ∙ ap H.at same ∙ f
