-- Within a class, a word's correlation is that of its six top bits with the class's six sums: by a computed test, each codeword is joined from
-- the interpretations that its class and its top bits pick.
use mathlib.Core.Path.{◌≡◌, refl, sym, ap, ap₂, ◌∙◌}
use mathlib.Core.Bool.{Bool, true, false, not, ◌&&◌}
use mathlib.Core.List.{List, [], ◌∷◌}
use Prim.Native.Nat.{ℕ, ◌+◌, ◌*◌, ◌/◌, ◌%◌, ◌<◌}
use native.Mathlib.Omega.{arith}
use lib.Dec.{T, eqb}
use lib.IntN.{ℤ}
use lib.ListN.{length, take}
use lib.Seq.{take_all}
use Rattle.binary.proofs.Tests.{and_left, and_right, all, below}
use Rattle.code.specs.Code.{messages, codeword_of}
use Rattle.contest.specs.Readings.{correlation, scores}
use Rattle.contest.specs.Numbers.{tops}
use Rattle.classes.specs.Codewords.{word}
use Rattle.classes.specs.Classes.{classes, parity_of, characters_of, class_sums}
use Rattle.classes.proofs.Columns.{from_columns, correlation-columns}

-- ---- a test of two words of bits

unfoldable pub same_bit : Bool → Bool → Bool
same_bit true b = b
same_bit false b = not b

unfoldable pub same_word : List Bool → List Bool → Bool
same_word [] [] = true
same_word [] (c ∷ cs) = false
same_word (b ∷ bs) [] = false
same_word (b ∷ bs) (c ∷ cs) = same_bit b c && same_word bs cs

same_bit_eq : (b c : Bool) → T (same_bit b c) → b ≡ c
unfolding same_bit
same_bit_eq true true t = refl
same_bit_eq true false t = absurd t
same_bit_eq false true t = absurd t
same_bit_eq false false t = refl

pub same_word_eq : (bs cs : List Bool) → T (same_word bs cs) → bs ≡ cs
unfolding same_word
same_word_eq [] [] t = refl
same_word_eq [] (c ∷ cs) t = absurd t
same_word_eq (b ∷ bs) [] t = absurd t
same_word_eq (b ∷ bs) (c ∷ cs) t =
    ap₂ (λ (x : Bool) (y : List Bool). x ∷ y) (same_bit_eq b c (and_left (same_bit b c) (same_word bs cs) t)) (same_word_eq bs cs (and_right (same_bit b c) (same_word bs cs) t))

-- ---- every codeword

-- the top bits that message m has, column 6's first
abbrev pub tops_of : ℕ → ℕ → List Bool
tops_of k j = tops 5 (eqb (parity_of k) 1) j

built : ℕ → Bool
built m = same_word (word m) (from_columns (parity_of (m / 32)) (tops_of (m / 32) (m % 32)) (characters_of (m / 32)))

all_built : T (all built messages)
unfolding built same_word same_bit word codeword_of characters_of
all_built = tt

word-columns : (m : ℕ) → m < messages → word m ≡ from_columns (parity_of (m / 32)) (tops_of (m / 32) (m % 32)) (characters_of (m / 32))
unfolding built
word-columns m h = same_word_eq _ _ (below built messages all_built m h)

module _ (xs : List ℤ) (long : length xs ≡ 24) where
  by_class : (m : ℕ) → m < messages → scores word xs m ≡ correlation (tops_of (m / 32) (m % 32)) (class_sums xs (m / 32))
  unfolding characters_of
  by_class m h =
      let k = m / 32 in
      let ts = tops_of k (m % 32) in
      let g : xs ≡ take 24 xs = sym (take_all 24 xs (omega arith)) in
      rw (word-columns m h)
      (ap (correlation (from_columns (parity_of k) ts (characters_of k))) g ∙ correlation-columns (parity_of k) xs ts (characters_of k) refl (omega arith))

  -- word j of class k
  pub in_class_lem : (k : ℕ) → k < classes → (j : ℕ) → j < 32 → scores word xs (k * 32 + j) ≡ correlation (tops_of k j) (class_sums xs k)
  in_class_lem k h j l =
      let a : (k * 32 + j) / 32 ≡ k = omega arith in
      let b : (k * 32 + j) % 32 ≡ j = omega arith in
      rw (a, b) at (by_class (k * 32 + j) (omega arith))
