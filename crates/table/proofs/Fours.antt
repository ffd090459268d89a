-- The words with four ones of a syndrome at distance four. Taking off its highest place leaves a word of three ones, which is the pattern of
-- what syndrome is left: so each such word is found at its highest place, and a computed test counts six of them.
-- Assumes nothing.
use mathlib.Core.Path.{◌≡◌, refl, sym, ap, ◌∙◌, subst}
use mathlib.Core.Bool.{Bool, true, false, ◌&&◌}
use Prim.Native.Nat.{ℕ, zero, suc, ◌+◌, ◌*◌, ◌/◌, ◌%◌, ◌^◌, ◌≤◌, ◌<◌}
use native.Mathlib.Nat.{mod-lt, div-add-mod', one-mul, pow-suc}
use native.Mathlib.Omega.{arith}
use lib.Dec.{T, ltb, ltb→lt, lt→ltb, eqb, eqb→eq, lit<}
use lib.Pow.{pow_mono}
use lib.Bits.{bit_xor, xor_comm, xor_shifted, xor_lt}
use lib.ListN.{get_or}
use Rattle.binary.specs.Words.{ones}
use Rattle.binary.proofs.Tests.{and_left, and_right, all, below}
use Rattle.binary.proofs.Xor.{xor_back}
use Rattle.binary.proofs.Places.{ones-positive, Top, top, ones-top}
use Rattle.code.specs.Code.{words, syndrome_of}
use Rattle.code.proofs.Syndromes.{syndrome-add, syndrome_lt, syndrome_rows}
use Rattle.patterns.specs.Patterns.{IsPattern}
use Rattle.patterns.proofs.Patterns.{pattern_unique}
use Rattle.patterns.proofs.Nearest.{pattern-itself}
use Rattle.table.proofs.Table.{table}
use Rattle.table.proofs.Lookup.{Tree, build, find, find_build}
use Rattle.table.proofs.Entries.{table-pattern}

-- the table, as the test reads it
tree : Tree
unfolding table
tree = build 12 table

unfoldable pub pattern_of : ℕ → ℕ
unfolding tree
pattern_of s = find tree s

pub pattern_of_lem : (s : ℕ) → s < 2 ^ 12 → IsPattern s (pattern_of s)
unfolding pattern_of
pattern_of_lem s h = subst (IsPattern s) (sym (find_build 12 table s h)) (table-pattern s h)

-- the pattern of a syndrome with place i taken off
abbrev pub rest : ℕ → ℕ → ℕ
rest s i = pattern_of (bit_xor s (get_or syndrome_rows i 0))

-- place i is the highest of the word that it makes with the rest
abbrev pub leads : ℕ → ℕ → Bool
leads s i = ltb (rest s i) (2 ^ i)

abbrev pub four : ℕ → ℕ → ℕ
four s i = 2 ^ i + rest s i

abbrev pub one : Bool → ℕ
one true = 1
one false = 0

-- how many of the n lowest places lead
abbrev pub leaders : ℕ → ℕ → ℕ
leaders s zero = 0
leaders s (suc n) = one (leads s n) + leaders s n

-- ---- each word with four ones is found at its highest place

row_at : ℕ → Bool
row_at i = eqb (syndrome_of (2 ^ i)) (get_or syndrome_rows i 0)

row_at_lem : (i : ℕ) → i < 24 → syndrome_of (2 ^ i) ≡ get_or syndrome_rows i 0
unfolding row_at syndrome_of
row_at_lem i h = eqb→eq (syndrome_of (2 ^ i)) (get_or syndrome_rows i 0) (below row_at 24 tt i h)

top-syndrome :
    (i low : ℕ) → i < 24 → low < 2 ^ i → syndrome_of (2 ^ i + low) ≡ bit_xor (get_or syndrome_rows i 0) (syndrome_of low)
top-syndrome i low h g =
    ap (λ (x : ℕ). syndrome_of (x + low)) (sym (one-mul (2 ^ i)))
    ∙ ap syndrome_of (sym (xor_shifted 1 i low g))
    ∙ syndrome-add (1 * 2 ^ i) low
    ∙ ap (λ (x : ℕ). bit_xor x (syndrome_of low)) (ap syndrome_of (one-mul (2 ^ i)) ∙ row_at_lem i h)

pub row_lt : (i : ℕ) → i < 24 → get_or syndrome_rows i 0 < 2 ^ 12
row_lt i h = subst (λ (x : ℕ). x < 2 ^ 12) (row_at_lem i h) (syndrome_lt (2 ^ i))

-- place i leads, and makes the word e
pub record Led (s e i : ℕ) : Type 0 where
  pub place : i < 24
  pub leading : T (leads s i)
  pub found : e ≡ four s i

module _ (s e : ℕ) (h : e < words) (z : syndrome_of e ≡ s) (o : ones 24 e ≡ 4) where
  syndrome_low : (i low : ℕ) → Top 24 e i low → syndrome_of low ≡ bit_xor s (get_or syndrome_rows i 0)
  syndrome_low i low t =
      sym (xor_back (get_or syndrome_rows i 0) (syndrome_of low))
      ∙ ap (bit_xor (get_or syndrome_rows i 0)) (sym (top-syndrome i low t.place t.below) ∙ ap syndrome_of (sym t.whole) ∙ z)
      ∙ xor_comm (get_or syndrome_rows i 0) s

  rest_low : (i low : ℕ) → Top 24 e i low → rest s i ≡ low
  rest_low i low t =
      ap pattern_of (sym (syndrome_low i low t))
      ∙ pattern-itself low (pattern_of (syndrome_of low)) (omega arith) (omega (arith, ones-top t))
      (pattern_of_lem (syndrome_of low) (syndrome_lt low))

  pub four-found : (i : ℕ) × Led s e i
  four-found =
      let (i, low, t) = top 24 e (ones-positive 24 e (omega arith)) h in
      let q = rest_low i low t in (
        i,
        record {
          place = t.place;
          leading = lt→ltb (rest s i) (2 ^ i) (rw q t.below);
          found = t.whole ∙ ap (λ (x : ℕ). 2 ^ i + x) (sym q);
        },
      )

-- ---- and what is found has the syndrome

pub four_lt : (s i n : ℕ) → i < n → T (leads s i) → four s i < 2 ^ n
four_lt s i n h t = below_double (2 ^ i) (rest s i) (2 ^ suc i) (2 ^ n) (pow-suc 2 i) (pow_mono h) (ltb→lt (rest s i) (2 ^ i) t)
  where
    below_double : (a b c d : ℕ) → c ≡ a * 2 → c ≤ d → b < a → a + b < d
    below_double a b c d e l g = omega arith

pub four-syndrome : (s i : ℕ) → s < 2 ^ 12 → i < 24 → T (leads s i) → syndrome_of (four s i) ≡ s
four-syndrome s i g h t =
    let row = get_or syndrome_rows i 0 in
    top-syndrome i (rest s i) h (ltb→lt (rest s i) (2 ^ i) t)
    ∙ ap (bit_xor row) ((pattern_of_lem (bit_xor s row) (xor_lt 12 s row g (row_lt i h))).syndrome ∙ xor_comm s row)
    ∙ xor_back row s

-- ---- six of them, each with four ones: a test at every syndrome, in four parts that are each within the steps of a declaration

implies : Bool → Bool → Bool
implies true b = b
implies false b = true

apply : (a b : Bool) → T (implies a b) → T a → T b
unfolding implies
apply true b t u = t
apply false b t u = absurd u

three_left : ℕ → ℕ → Bool
three_left s i = implies (leads s i) (eqb (ones 24 (rest s i)) 3)

six : ℕ → Bool
six s = implies (eqb (ones 24 (pattern_of s)) 4) (eqb (leaders s 24) 6 && all (three_left s) 24)

part : ℕ → ℕ → Bool
part j k = six (j * 1024 + k)

part_0 : T (all (part 0) 1024)
unfolding part six three_left implies pattern_of ones
part_0 = tt

part_1 : T (all (part 1) 1024)
unfolding part six three_left implies pattern_of ones
part_1 = tt

part_2 : T (all (part 2) 1024)
unfolding part six three_left implies pattern_of ones
part_2 = tt

part_3 : T (all (part 3) 1024)
unfolding part six three_left implies pattern_of ones
part_3 = tt

parts : (j : ℕ) → j < 4 → T (all (part j) 1024)
parts zero h = part_0
parts (suc zero) h = part_1
parts (suc (suc zero)) h = part_2
parts (suc (suc (suc zero))) h = part_3
parts (suc (suc (suc (suc j)))) h = let e : ⊥ = omega arith in absurd e

six-at : (s : ℕ) → s < 2 ^ 12 → T (six s)
unfolding part
six-at s h =
    subst (λ (x : ℕ). T (six x)) (div-add-mod' s 1024)
    (below (part (s / 1024)) 1024 (parts (s / 1024) (omega arith)) (s % 1024) (mod-lt s (lit< tt)))

module _ (s p : ℕ) (h : s < 2 ^ 12) (r : IsPattern s p) (o : ones 24 p ≡ 4) where
  counted : T (eqb (leaders s 24) 6 && all (three_left s) 24)
  unfolding six
  counted =
      apply (eqb (ones 24 (pattern_of s)) 4) (eqb (leaders s 24) 6 && all (three_left s) 24) (six-at s h)
      (rw (pattern_unique (pattern_of_lem s h) r, o) tt)

  pub six_lead : leaders s 24 ≡ 6
  six_lead = eqb→eq (leaders s 24) 6 (and_left (eqb (leaders s 24) 6) (all (three_left s) 24) counted)

  three_ones : (i : ℕ) → i < 24 → T (leads s i) → ones 24 (rest s i) ≡ 3
  unfolding three_left
  three_ones i g t =
      eqb→eq (ones 24 (rest s i)) 3
      (apply (leads s i) (eqb (ones 24 (rest s i)) 3)
      (below (three_left s) 24 (and_right (eqb (leaders s 24) 6) (all (three_left s) 24) counted) i g) t)

  pub four-ones : (i : ℕ) → i < 24 → T (leads s i) → ones 24 (four s i) ≡ 4
  four-ones i g t =
      let whole : Top 24 (four s i) i (rest s i) = record { place = g; below = ltb→lt (rest s i) (2 ^ i) t; whole = refl } in
      ones-top whole ∙ ap suc (three_ones i g t)
