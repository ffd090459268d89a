-- The sums of a class in the array of all: they are those that the reading's columns say for its characters.
use mathlib.Core.Path.{◌≡◌, refl, ap}
use mathlib.Core.List.{List}
use Prim.Native.Nat.{ℕ, zero, suc, ◌+◌, ◌-◌, ◌*◌, ◌/◌, ◌%◌, ◌<◌}
use native.Mathlib.Omega.{arith}
use lib.IntN.{ℤ}
use lib.ListN.{length, get_or}
use borrow.Author.Tests.{lt-ltb}
use Rattle.code.specs.Characters.{fourth, fifth, sixth}
use Rattle.classes.specs.Classes.{parity_of, characters_of, character_in, column_figure, class_sums}
use Rattle.classes.proofs.Characters.{fourth_small, fifth_small, sixth_small}
use Rattle.columns.specs.Columns.{SumAt, Sums, picks, front, column_at}

-- ---- the first of a list, the last of them first

pub front_long : (i : ℕ) (x : List ℕ) → length (front i x) ≡ i
front_long zero x = refl
front_long (suc i) x = ap suc (front_long i x)

-- from the front's end it goes back to the list's start
pub front_at : (n : ℕ) (x : List ℕ) (i m : ℕ) → i + m + 1 ≡ n → get_or (front n x) m 0 ≡ get_or x i 0
front_at zero x i m e = absurd (omega arith)
front_at (suc n) x i zero e = let g : n ≡ i = omega arith in ap (λ (j : ℕ). get_or x j 0) g
front_at (suc n) x i (suc m) e = front_at n x i m (omega arith)

-- ---- a class of the sums

module _ (xs s : List ℤ) (I : Sums xs s) (k : ℕ) where
  pub picks_are : picks s (parity_of k) (characters_of k) ≡ class_sums xs k
  unfolding characters_of
  picks_are =
      let a = k / 16 % 4 in
      let b = k / 4 % 4 in
      let c = k % 4 in
      let ha : a < 4 = omega arith in
      let hb : b < 4 = omega arith in
      let hc : c < 4 = omega arith in
      let q : parity_of k < 2 = omega arith in
      let p = parity_of k in
      let S = I.sums in
      cc (S 5 p (sixth a b c) (omega arith) q (sixth_small a b c ha hb hc), S 4 p (fifth a b c) (omega arith) q (fifth_small a b c ha hb hc), S 3 p (fourth a b c) (omega arith) q (fourth_small a b c ha hb hc), S 2 p c (omega arith) q hc, S 1 p b (omega arith) q hb, S 0 p a (omega arith) q ha)

-- ---- one column of a class

module _ (xs : List ℤ) (k i : ℕ) where
  pub column_at-within : i < 6 → column_at xs k i ≡ column_figure xs k (i + 1)
  column_at-within h = simp (lt-ltb i 6 h)

  -- of the eight sums of column i, the one in the class's place
  pub column_at-sum : i < 6 → (x : List ℕ) → front 6 x ≡ characters_of k → get_or x i 0 < 4
      → {z : ℤ} → SumAt xs (8 * i + (k / 64 % 2 * 4 + get_or x i 0)) z → z ≡ column_at xs k i
  unfolding column_figure
  column_at-sum h x e s {z} S =
      let j = 8 * i + (k / 64 % 2 * 4 + get_or x i 0) in
      let column : j / 8 ≡ i = omega arith in
      let parity : j % 8 / 4 ≡ parity_of k = omega arith in
      let character : j % 8 % 4 ≡ get_or x i 0 = omega arith in
      let before : i + 1 - 1 ≡ i = omega arith in
      let there : character_in k (i + 1) ≡ get_or x i 0 = rw (← e) (front_at 6 x i (6 - (i + 1)) (omega arith)) in
      simp (lt-ltb i 6 h, before, there) (rw (column, parity, character) at S.value)
