-- A column's eight sums from its two pairs: each equation of signed sums is one of the confidences' parts. Of any
-- list of confidences: where one is missing, 0 stands in.
use mathlib.Core.Path.{◌≡◌, refl}
use mathlib.Core.Bool.{Bool, true, false}
use mathlib.Core.List.{List, [], ◌∷◌}
use Prim.Native.Nat.{ℕ, zero, suc, ◌+◌, ◌*◌, ◌/◌, ◌%◌, ◌<◌}
use native.Mathlib.Omega.{arith}
use lib.Dec.{eqb, lit<}
use lib.IntN.{ℤ, pos, neg_ℤ, ◌+ℤ◌, ◌-ℤ◌, +ℤ_idr}
use lib.ListN.{get_or, take, drop}
use lib.Seq.{take-nil, drop-nil}
use Rattle.signed.specs.Sign.{signed}
use Rattle.signed.specs.Within.{Within}
use Rattle.signed.proofs.Sums.{at, ◌⊕◌, ◌⊖◌, opposite, by_eq}
use Rattle.signed.proofs.Bounds.{within-add, within-sub}
use Rattle.contest.specs.Readings.{correlation}
use Rattle.classes.specs.Codewords.{in_positions}
use Rattle.classes.specs.Classes.{column_sum}
use Rattle.columns.specs.Columns.{ColumnOf, SumAt}
use Rattle.columns.specs.declared.parts.Column.{Column}

-- ---- four confidences, 0 for each that is missing

correlation_nil : (xs : List ℤ) → correlation [] xs ≡ pos 0
unfolding correlation
correlation_nil xs = refl

missing : (b : Bool) (bs : List Bool) → pos 0 ≡ signed b (pos 0) +ℤ correlation bs []
unfolding correlation
missing false [] = refl
missing false (c ∷ bs) = refl
missing true [] = refl
missing true (c ∷ bs) = refl

next : (xs : List ℤ) (b : Bool) (bs : List Bool) (m n k : ℕ) → k ≡ suc n
    → correlation (b ∷ bs) (take (suc m) (drop n xs)) ≡ signed b (get_or xs n (pos 0)) +ℤ correlation bs (take m (drop k xs))
unfolding correlation
next [] b bs m n k e = rw (drop-nil n, drop-nil k, take-nil m) (missing b bs)
next (x ∷ xs) b bs m zero k e = rw e refl
next (x ∷ xs) b bs m (suc n) (suc k) e = next xs b bs m n k (omega arith)
next (x ∷ xs) b bs m (suc n) zero e = absurd (omega arith)

module _ (xs : List ℤ) (n : ℕ) where
  four : (w : ℕ) → correlation (in_positions 4 w) (take 4 (drop n xs))
      ≡ signed (eqb (w / 8 % 2) 1) (get_or xs n (pos 0))
      +ℤ (signed (eqb (w / 4 % 2) 1) (get_or xs (n + 1) (pos 0))
      +ℤ (signed (eqb (w / 2 % 2) 1) (get_or xs (n + 2) (pos 0)) +ℤ signed (eqb (w % 2) 1) (get_or xs (n + 3) (pos 0))))
  four w =
      let d : w / 1 ≡ w = omega arith in
      rw (
        next xs _ _ 3 n (n + 1) (omega arith),
        next xs _ _ 2 (n + 1) (n + 2) (omega arith),
        next xs _ _ 1 (n + 2) (n + 3) (omega arith),
        next xs _ _ 0 (n + 3) (n + 4) (omega arith),
        d,
        correlation_nil,
        +ℤ_idr,
      ) refl

-- ---- from pairs, for any four

module _ (a b c d : ℤ) where
  even_0 : (a +ℤ b) +ℤ (c +ℤ d) ≡ a +ℤ (b +ℤ (c +ℤ d))
  even_0 = by_eq ((at a ⊕ at b) ⊕ (at c ⊕ at d)) (at a ⊕ (at b ⊕ (at c ⊕ at d))) (omega arith)

  even_1 : (a +ℤ b) -ℤ (c +ℤ d) ≡ a +ℤ (b +ℤ (neg_ℤ c +ℤ neg_ℤ d))
  even_1 = by_eq ((at a ⊕ at b) ⊖ (at c ⊕ at d)) (at a ⊕ (at b ⊕ (opposite (at c) ⊕ opposite (at d)))) (omega arith)

  even_w : (a -ℤ b) +ℤ (c -ℤ d) ≡ a +ℤ (neg_ℤ b +ℤ (c +ℤ neg_ℤ d))
  even_w = by_eq ((at a ⊖ at b) ⊕ (at c ⊖ at d)) (at a ⊕ (opposite (at b) ⊕ (at c ⊕ opposite (at d)))) (omega arith)

  even_v : (a -ℤ b) -ℤ (c -ℤ d) ≡ a +ℤ (neg_ℤ b +ℤ (neg_ℤ c +ℤ d))
  even_v = by_eq ((at a ⊖ at b) ⊖ (at c ⊖ at d)) (at a ⊕ (opposite (at b) ⊕ (opposite (at c) ⊕ at d))) (omega arith)

  odd_0 : (a -ℤ b) -ℤ (c +ℤ d) ≡ a +ℤ (neg_ℤ b +ℤ (neg_ℤ c +ℤ neg_ℤ d))
  odd_0 = by_eq ((at a ⊖ at b) ⊖ (at c ⊕ at d)) (at a ⊕ (opposite (at b) ⊕ (opposite (at c) ⊕ opposite (at d)))) (omega arith)

  odd_1 : (a -ℤ b) +ℤ (c +ℤ d) ≡ a +ℤ (neg_ℤ b +ℤ (c +ℤ d))
  odd_1 = by_eq ((at a ⊖ at b) ⊕ (at c ⊕ at d)) (at a ⊕ (opposite (at b) ⊕ (at c ⊕ at d))) (omega arith)

  odd-w : (a +ℤ b) -ℤ (c -ℤ d) ≡ a +ℤ (b +ℤ (neg_ℤ c +ℤ d))
  odd-w = by_eq ((at a ⊕ at b) ⊖ (at c ⊖ at d)) (at a ⊕ (at b ⊕ (opposite (at c) ⊕ at d))) (omega arith)

  odd-v : (a +ℤ b) +ℤ (c -ℤ d) ≡ a +ℤ (b +ℤ (c +ℤ neg_ℤ d))
  odd-v = by_eq ((at a ⊕ at b) ⊕ (at c ⊖ at d)) (at a ⊕ (at b ⊕ (at c ⊕ opposite (at d)))) (omega arith)

-- ---- column i

-- the sum of column i in place n of its eight
at_place : {xs : List ℤ} {z : ℤ} (i p x n : ℕ) → p < 2 → x < 4 → n ≡ p * 4 + x → z ≡ column_sum xs i p x → Within 8589934592 z → SumAt xs (8 * i + n) z
at_place i p x n hp hx h v w =
    let j = 8 * i + n in
    let e : j / 8 ≡ i = omega arith in
    let f : j % 8 / 4 ≡ p = omega arith in
    let g : j % 8 % 4 ≡ x = omega arith in
    record { value = rw (e, f, g) v; bound = w }

-- what stands in place n of column i, for each of the eight places
pub record Eight (xs : List ℤ) (i n : ℕ) (u d g h : ℤ) : Type 0 where
  pub even_0 : n ≡ 0 → SumAt xs (8 * i + n) (u +ℤ g)
  pub even_1 : n ≡ 1 → SumAt xs (8 * i + n) (u -ℤ g)
  pub even_w : n ≡ 2 → SumAt xs (8 * i + n) (d +ℤ h)
  pub even_v : n ≡ 3 → SumAt xs (8 * i + n) (d -ℤ h)
  pub odd_0 : n ≡ 4 → SumAt xs (8 * i + n) (d -ℤ g)
  pub odd_1 : n ≡ 5 → SumAt xs (8 * i + n) (d +ℤ g)
  pub odd-w : n ≡ 6 → SumAt xs (8 * i + n) (u -ℤ h)
  pub odd-v : n ≡ 7 → SumAt xs (8 * i + n) (u +ℤ h)

module _ {xs : List ℤ} {t : Column} (i n : ℕ) (C : ColumnOf xs i t) where
  pub eight : Eight xs i n t.upper.sum t.upper.difference t.lower.sum t.lower.difference
  unfolding column_sum
  eight =
      let U = C.upper in
      let L = C.lower in
      let upper = t.upper in
      let lower = t.lower in
      let a = get_or xs (4 * i) (pos 0) in
      let b = get_or xs (4 * i + 1) (pos 0) in
      let c = get_or xs (4 * i + 2) (pos 0) in
      let d = get_or xs (4 * i + 3) (pos 0) in
      let e : 4 * i + 2 + 1 ≡ 4 * i + 3 = omega arith in
      let ls : lower.sum ≡ c +ℤ d = rw e at L.sum in
      let ld : lower.difference ≡ c -ℤ d = rw e at L.difference in
      let f = four xs (4 * i) in
      record {
        even_0 = λ q. at_place i 0 0 n (lit< tt) (lit< tt) q (rw (U.sum, ls, f 0) (even_0 a b c d)) (within-add upper.narrow_sum lower.narrow_sum);
        even_1 = λ q. at_place i 0 1 n (lit< tt) (lit< tt) q (rw (U.sum, ls, f 3) (even_1 a b c d)) (within-sub upper.narrow_sum lower.narrow_sum);
        even_w = λ q. at_place i 0 2 n (lit< tt) (lit< tt) q (rw (U.difference, ld, f 5) (even_w a b c d)) (within-add upper.narrow_difference lower.narrow_difference);
        even_v = λ q. at_place i 0 3 n (lit< tt) (lit< tt) q (rw (U.difference, ld, f 6) (even_v a b c d)) (within-sub upper.narrow_difference lower.narrow_difference);
        odd_0 = λ q. at_place i 1 0 n (lit< tt) (lit< tt) q (rw (U.difference, ls, f 7) (odd_0 a b c d)) (within-sub upper.narrow_difference lower.narrow_sum);
        odd_1 = λ q. at_place i 1 1 n (lit< tt) (lit< tt) q (rw (U.difference, ls, f 4) (odd_1 a b c d)) (within-add upper.narrow_difference lower.narrow_sum);
        odd-w = λ q. at_place i 1 2 n (lit< tt) (lit< tt) q (rw (U.sum, ld, f 2) (odd-w a b c d)) (within-sub upper.narrow_sum lower.narrow_difference);
        odd-v = λ q. at_place i 1 3 n (lit< tt) (lit< tt) q (rw (U.sum, ld, f 1) (odd-v a b c d)) (within-add upper.narrow_sum lower.narrow_difference);
      }
