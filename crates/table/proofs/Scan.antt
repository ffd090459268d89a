-- A test of every word with at most b ones, at its row sum and its key: a recursion over the positions that carries both, so that no word is
-- taken apart, tied to all such words by one induction. A word's key puts its ones, each worth `unit`, before the word itself.
-- Assumes nothing.
use mathlib.Core.Path.{◌≡◌, refl, sym, ap, ◌∙◌, subst, subst₂}
use mathlib.Core.Bool.{Bool, ◌&&◌}
use mathlib.Core.List.{List, [], ◌∷◌}
use Prim.Native.Nat.{ℕ, zero, suc, ◌+◌, ◌*◌, ◌/◌, ◌%◌, ◌^◌, ◌≤◌, ◌<◌}
use native.Mathlib.Nat.{add-mul, mul_assoc, mul_comm, div-add-mod', zero-mul, one-mul, add-zero}
use native.Mathlib.Omega.{arith}
use lib.Dec.{T}
use lib.Arith.{lt-one}
use lib.Bits.{bit_xor, xor_zero_r}
use lib.ListN.{length}
use Rattle.binary.specs.Words.{ones, row_sum}
use Rattle.binary.proofs.Tests.{and_left, and_right}
use Rattle.binary.proofs.Xor.{two_cases, bit_lt, xor_assoc}
use Rattle.binary.proofs.Linear.{additive_zero, row_sum-add}
use Rattle.binary.proofs.Ones.{half_lt, ones_zero}
use Rattle.binary.proofs.Places.{no_ones}

abbrev pub key_of : ℕ → ℕ → ℕ → ℕ
key_of unit n w = w + ones n w * unit

-- s is the row sum so far, k the key so far, and a one at the next position is worth place
abbrev pub scan : (ℕ → ℕ → Bool) → ℕ → List ℕ → ℕ → ℕ → ℕ → ℕ → Bool
scan f unit [] b s k place = f s k
scan f unit (r ∷ rs) zero s k place = f s k
scan f unit (r ∷ rs) (suc b) s k place =
    scan f unit rs (suc b) s k (place * 2) && scan f unit rs b (bit_xor s r) (k + place + unit) (place * 2)

worth : (w place : ℕ) → w * place ≡ w / 2 * (place * 2) + w % 2 * place
worth w place =
    ap (λ (x : ℕ). x * place) (sym (div-add-mod' w 2))
    ∙ add-mul (w / 2 * 2) (w % 2) place
    ∙ ap (λ (x : ℕ). x + w % 2 * place) (mul_assoc (w / 2) 2 place ∙ ap (λ (x : ℕ). w / 2 * x) (mul_comm 2 place))

module _ (f : ℕ → ℕ → Bool) (unit : ℕ) where
  abbrev Passes : ℕ → ℕ → Type 0
  Passes s k = T (f s k)

  at_zero :
      (rs : List ℕ) (n s k place w : ℕ) → Passes s k → w ≡ 0 → Passes (bit_xor s (row_sum rs w)) (k + w * place + ones n w * unit)
  at_zero rs n s k place w h z =
      rw (z, additive_zero (row_sum rs) (row_sum-add rs), xor_zero_r, ones_zero n, zero-mul place, zero-mul unit) (simp add-zero h)

  -- the lowest bit of w picks the branch that tests it; l, high and o are row sum, number and ones of the bits above
  branches :
      (r s k place l high o bit : ℕ) → bit < 2
      → (bit ≡ 0 → Passes (bit_xor s l) (k + high * (place * 2) + o * unit))
      → (bit ≡ 1 → Passes (bit_xor (bit_xor s r) l) (k + place + unit + high * (place * 2) + o * unit))
      → Passes (bit_xor s (bit_xor (bit * r) l)) (k + (high * (place * 2) + bit * place) + (bit + o) * unit)
  branches r s k place l high o bit h =
      two_cases
      (λ b.
      (b ≡ 0 → Passes (bit_xor s l) (k + high * (place * 2) + o * unit))
      → (b ≡ 1 → Passes (bit_xor (bit_xor s r) l) (k + place + unit + high * (place * 2) + o * unit))
      → Passes (bit_xor s (bit_xor (b * r) l)) (k + (high * (place * 2) + b * place) + (b + o) * unit))
      (λ p q. subst₂ Passes (ap (λ (x : ℕ). bit_xor s (bit_xor x l)) (sym (zero-mul r))) (omega arith) (p refl))
      (λ p q. subst₂ Passes (xor_assoc s r l ∙ ap (λ (x : ℕ). bit_xor s (bit_xor x l)) (sym (one-mul r))) (omega arith) (q refl))
      bit h

  scan_law :
      (rs : List ℕ) (b s k place : ℕ)
      → T (scan f unit rs b s k place)
      → (w : ℕ)
      → w < 2 ^ length rs
      → ones (length rs) w ≤ b
      → T (f (bit_xor s (row_sum rs w)) (k + w * place + ones (length rs) w * unit))
  unfolding ones
  scan_law [] b s k place t w g o = at_zero [] 0 s k place w t (lt-one g)
  scan_law (r ∷ rs) zero s k place t w g o = at_zero (r ∷ rs) (suc (length rs)) s k place w t (no_ones (suc (length rs)) w g o)
  scan_law (r ∷ rs) (suc b) s k place t w g o =
      let without = scan f unit rs (suc b) s k (place * 2) in
      let with = scan f unit rs b (bit_xor s r) (k + place + unit) (place * 2) in
      rw (worth w place)
      (branches r s k place (row_sum rs (w / 2)) (w / 2) (ones (length rs) (w / 2)) (w % 2) (bit_lt w)
      (λ z. scan_law rs (suc b) s k (place * 2) (and_left without with t) (w / 2) (half_lt (length rs) w g) (omega arith))
      (λ z. scan_law rs b (bit_xor s r) (k + place + unit) (place * 2) (and_right without with t) (w / 2) (half_lt (length rs) w g) (omega arith)))

  pub scanned :
      (rs : List ℕ) (b : ℕ)
      → T (scan f unit rs b 0 0 1)
      → (w : ℕ)
      → w < 2 ^ length rs
      → ones (length rs) w ≤ b
      → T (f (row_sum rs w) (key_of unit (length rs) w))
  scanned rs b t w g o = subst (λ (x : ℕ). T (f (row_sum rs w) x)) (omega arith) (scan_law rs b 0 0 1 t w g o)
