-- The figures of the classes from the codes of the sums: the codes in pairs, the figure of six codes, and that it is what the sums reach.
use mathlib.Core.Path.{◌≡◌, refl, sym, ap, ap₂, ◌∙◌}
use mathlib.Core.Logic.{◌≢◌}
use mathlib.Core.Bool.{Bool, true, false}
use mathlib.Core.List.{List, [], ◌∷◌}
use Prim.Native.Nat.{ℕ, zero, suc, ◌+◌, ◌*◌, ◌/◌, ◌%◌, ◌≤◌, ◌<◌, min}
use native.Mathlib.Nat.{min_comm}
use native.Mathlib.Omega.{arith}
use native.Mathlib.Decide.{ℕ_discrete}
use lib.Dec.{eqb, lit≤}
use lib.IntN.{ℤ, pos, ◌-ℤ◌, +ℤ_idr}
use lib.ListN.{length, get_or}
use Rattle.signed.specs.Sign.{sign}
use Rattle.signed.specs.Within.{Within}
use Rattle.signed.proofs.Bounds.{within-pos, within-sub, within_le}
use Rattle.binary.proofs.Xor.{two_cases, bit_lt}
use Rattle.contest.specs.Words.{differ, odd}
use Rattle.contest.specs.Losses.{weight}
use Rattle.contest.specs.Figures.{signs, least, reached, code}
use Rattle.contest.proofs.Numbers.{one_small, bit-same, bit-other}
use Rattle.contest.proofs.Codes.{code_sum, code_least, codes-weight, codes-odd, codes-least}
use Rattle.code.specs.Characters.{fourth, fifth, sixth}
use Rattle.classes.specs.Classes.{parity_of, characters_of}
use Rattle.classes.proofs.Characters.{fourth_small, fifth_small, sixth_small}
use Rattle.columns.specs.Columns.{place, far}
use Rattle.pairs.specs.Pairs.{widest, first_of, second_of, Pairs}
use Rattle.pairs.proofs.Pairing.{pairs_within}
use Rattle.figures.specs.Figures.{reached_from, Codes, Usable, middle_of, last_of, scored, figure_from, figure_of, figure_at}

-- ---- pairs of codes

pub sums_usable : {e r : List ℕ} → ((j : ℕ) → get_or e j 0 ≤ widest) → Pairs ◌+◌ e r → Usable r
sums_usable = pairs_within {f = ◌+◌} (λ x y. omega arith)

pub leasts_usable : {e r : List ℕ} → ((j : ℕ) → get_or e j 0 ≤ widest) → Pairs min e r → Usable r
leasts_usable = pairs_within {f = min} (λ x y. omega arith)

-- ---- a table is the list of a rule's values

abbrev pub table : (ℕ → ℕ) → ℕ → ℕ → List ℕ
table f i zero = []
table f i (suc n) = f i ∷ table f (suc i) n

table-from : (f : ℕ → ℕ) (n i k : ℕ) → k < n → get_or (table f i n) k 0 ≡ f (i + k)
table-from f zero i k h = absurd (omega arith)
table-from f (suc n) i zero h = ap f (omega arith)
table-from f (suc n) i (suc k) h = table-from f n (suc i) k (omega arith) ∙ ap f (omega arith)

pub table_at : (f : ℕ → ℕ) (n k : ℕ) → k < n → get_or (table f 0 n) k 0 ≡ f k
table_at f n k h = table-from f n 0 k h ∙ ap f (omega arith)

-- ---- the pairs of a class

module _ (p x y : ℕ) (hp : p < 2) (hx : x < 4) (hy : y < 4) where
  middle_first : first_of (p * 16 + x * 4 + y) ≡ place 2 p x
  middle_first = omega arith

  middle_second : second_of (p * 16 + x * 4 + y) ≡ place 3 p y
  middle_second = omega arith

  last_first : first_of (32 + p * 16 + x * 4 + y) ≡ place 4 p x
  last_first = omega arith

  last_second : second_of (32 + p * 16 + x * 4 + y) ≡ place 5 p y
  last_second = omega arith

module _ (k : ℕ) where
  parity_small : parity_of k < 2
  parity_small = omega arith

  d_small : fourth (k / 16 % 4) (k / 4 % 4) (k % 4) < 4
  d_small = fourth_small (k / 16 % 4) (k / 4 % 4) (k % 4) (omega arith) (omega arith) (omega arith)

  e_small : fifth (k / 16 % 4) (k / 4 % 4) (k % 4) < 4
  e_small = fifth_small (k / 16 % 4) (k / 4 % 4) (k % 4) (omega arith) (omega arith) (omega arith)

  f_small : sixth (k / 16 % 4) (k / 4 % 4) (k % 4) < 4
  f_small = sixth_small (k / 16 % 4) (k / 4 % 4) (k % 4) (omega arith) (omega arith) (omega arith)

  pub middle_small : middle_of k < 64
  middle_small = omega (arith, parity_small, d_small)

  pub last_small : last_of k < 64
  last_small = omega (arith, parity_small, e_small, f_small)

  module _ {f : ℕ → ℕ → ℕ} {e r : List ℕ} (P : Pairs f e r) where
    pub middle_pair : get_or r (middle_of k) 0
        ≡ f (get_or e (place 2 (parity_of k) (k % 4)) 0) (get_or e (place 3 (parity_of k) (fourth (k / 16 % 4) (k / 4 % 4) (k % 4))) 0)
    middle_pair =
        let h : k % 4 < 4 = omega arith in
        (P.places (middle_of k) middle_small).value
        ∙ ap₂ (λ (i j : ℕ). f (get_or e i 0) (get_or e j 0)) (middle_first _ _ _ parity_small h d_small) (middle_second _ _ _ parity_small h d_small)

    pub last_pair : get_or r (last_of k) 0
        ≡ f (get_or e (place 4 (parity_of k) (fifth (k / 16 % 4) (k / 4 % 4) (k % 4))) 0)
        (get_or e (place 5 (parity_of k) (sixth (k / 16 % 4) (k / 4 % 4) (k % 4))) 0)
    last_pair =
        (P.places (last_of k) last_small).value
        ∙ ap₂ (λ (i j : ℕ). f (get_or e i 0) (get_or e j 0)) (last_first _ _ _ parity_small e_small f_small) (last_second _ _ _ parity_small e_small f_small)

-- a class's first two columns, by the four that have them in common
first-place : (k : ℕ) → k < 128 → k / 4 / 4 ≡ place 0 (parity_of k) (k / 16 % 4)
first-place k h = omega arith

second-place : (k : ℕ) → k < 128 → 8 + k / 4 / 16 * 4 + k / 4 % 4 ≡ place 1 (parity_of k) (k / 4 % 4)
second-place k h = omega arith

parity-place : (k : ℕ) → k < 128 → k / 4 / 16 ≡ parity_of k
parity-place k h = omega arith

pub four_more : (q : ℕ) → 4 * (q + 1) ≡ 4 * q + 4
four_more q = omega arith

-- what these columns say
module _ (e : List ℕ) (q : ℕ) where
  abbrev pub x1 : ℕ
  x1 = get_or e (q / 4) 0

  abbrev pub x2 : ℕ
  x2 = get_or e (8 + q / 16 * 4 + q % 4) 0

  pub figure-from : {s l : List ℕ} → Pairs ◌+◌ e s → Pairs min e l → q < 32 → {sum least : ℕ} → sum ≡ x1 + x2 + q / 16 → least ≡ min x1 x2
      → (k : ℕ) → 4 * q ≤ k → k < 4 * q + 4 → figure_at e k ≡ figure_from s l sum least k
  unfolding figure_from figure_at
  figure-from S L h u v k a b =
      let d : q ≡ k / 4 = omega arith in
      let n : k < 128 = omega arith in
      rw (middle_pair k S, last_pair k S, middle_pair k L, last_pair k L, u, v, d, first-place k n, second-place k n, parity-place k n) refl

-- by the places where the pairs stand
pub figure-read : (s l : List ℕ) (sum least k : ℕ) {i j : ℕ} → i ≡ middle_of k → j ≡ last_of k
    → scored (sum + get_or s i 0 + get_or s j 0) (min (get_or l j 0) (min (get_or l i 0) least)) ≡ figure_from s l sum least k
unfolding figure_from
figure-read s l sum least k p q = rw (p, q) refl

pub taken_off : (l s : ℕ) → 2 * (l / 8) * (s % 2) ≤ l
taken_off l s = two_cases (λ r. 2 * (l / 8) * r ≤ l) (omega arith) (omega arith) (s % 2) (bit_lt s)

pub scored-within : (s l : ℕ) → s ≤ 6 * widest + 1 → l ≤ 2 * widest → Within far (scored s l)
scored-within s l a b =
    within_le
    (within-sub (within-pos {m = s / 8} {n = 6 * widest + 1} (omega arith))
    (within-pos {m = 2 * (l / 8) * (s % 2)} {n = 2 * widest} (omega (arith, taken_off l s))))
    (lit≤ tt)

-- ---- what a class's sums reach

-- fewer than eight numbers: their signs do not reach the sizes
few-signs : (fs : List ℤ) → length fs < 8 → code_sum fs % 8 ≤ length fs
few-signs [] h = omega arith
few-signs (f ∷ fs) h = omega (arith, few-signs fs (omega arith), one_small (sign f))

differ_same : (b c : Bool) → b ≡ c → differ c b ≡ false
differ_same false false e = refl
differ_same false true e = sym e
differ_same true false e = e
differ_same true true e = refl

differ-other : (b c : Bool) → c ≢ b → differ c b ≡ true
differ-other false false d = absurd (d refl)
differ-other false true d = refl
differ-other true false d = refl
differ-other true true d = absurd (d refl)

module _ (p : ℕ) (f : ℤ) (fs : List ℤ) (seven : length fs < 6) (bit : p < 2) where
  s : ℕ
  s = code_sum (f ∷ fs)

  sizes : (s + p) / 8 ≡ weight (f ∷ fs)
  unfolding s
  sizes = omega (arith, few-signs (f ∷ fs) (omega arith), codes-weight (f ∷ fs) (omega arith))

  kept : s % 2 ≡ p → scored (s + p) (code_least f fs) ≡ pos (weight (f ∷ fs))
  kept e =
      let z : (s + p) % 2 ≡ 0 = omega arith in
      let o : 2 * (code_least f fs / 8) * 0 ≡ 0 = omega arith in
      rw (z, sizes, o) (+ℤ_idr (pos (weight (f ∷ fs))))

  broken : s % 2 ≢ p → scored (s + p) (code_least f fs) ≡ pos (weight (f ∷ fs)) -ℤ pos (2 * least f fs)
  broken d =
      let z : (s + p) % 2 ≡ 1 = omega arith in
      let o : 2 * least f fs * 1 ≡ 2 * least f fs = omega arith in
      rw (z, sizes, codes-least f fs, o) refl

  scored-reached : scored (code_sum (f ∷ fs) + p) (code_least f fs) ≡ reached (eqb p 1) f fs
  unfolding s
  scored-reached = go (ℕ_discrete (s % 2) p)
    where
      go : Dec (s % 2 ≡ p) → scored (s + p) (code_least f fs) ≡ reached (eqb p 1) f fs
      go (yes e) =
          let o = bit-same (odd (signs (f ∷ fs))) p (sym (codes-odd (f ∷ fs) (omega arith)) ∙ e) in
          rw (kept e, differ_same _ _ o) refl
      go (no d) =
          let o = bit-other (odd (signs (f ∷ fs))) p bit (λ e. d (codes-odd (f ∷ fs) (omega arith) ∙ e)) in
          rw (broken d, differ-other _ _ o) refl

-- six codes in the order of the columns
min-pair : (x y m : ℕ) → min x (min y m) ≡ min (min y x) m
min-pair x y m = omega arith

least-six : (a b c d e f : ℕ) → min f (min e (min d (min c (min b a)))) ≡ min (min e f) (min (min c d) (min a b))
least-six a b c d e f = rw (min-pair f e _, min-pair d c _, min_comm b a) refl

figure-six : (p : ℕ) (a b c d e f : ℤ)
    → figure_of p (code a) (code b) (code c) (code d) (code e) (code f)
    ≡ scored (code_sum (f ∷ e ∷ d ∷ c ∷ b ∷ a ∷ []) + p) (code_least f (e ∷ d ∷ c ∷ b ∷ a ∷ []))
figure-six p a b c d e f =
    ap₂ scored (omega arith) (sym (least-six (code a) (code b) (code c) (code d) (code e) (code f)))

six-reached : (p : ℕ) → p < 2 → (a b c d e f : ℤ)
    → figure_of p (code a) (code b) (code c) (code d) (code e) (code f) ≡ reached (eqb p 1) f (e ∷ d ∷ c ∷ b ∷ a ∷ [])
six-reached p bit a b c d e f = figure-six p a b c d e f ∙ scored-reached p f (e ∷ d ∷ c ∷ b ∷ a ∷ []) (omega arith) bit

module _ (s : List ℤ) {e : List ℕ} (C : Codes s e) (k : ℕ) where
  abbrev sum_of : ℕ → ℕ → ℤ
  sum_of i x = get_or s (place i (parity_of k) x) (pos 0)

  code_of : (i x : ℕ) → i < 6 → x < 4 → get_or e (place i (parity_of k) x) 0 ≡ code (sum_of i x)
  code_of i x hi hx = C.codes (place i (parity_of k) x) (omega arith)

  pub codes_reach : figure_at e k ≡ reached_from s k
  unfolding figure_at characters_of reached_from
  codes_reach =
      let a = k / 16 % 4 in
      let b = k / 4 % 4 in
      let c = k % 4 in
      rw (
        code_of 0 a (omega arith) (omega arith),
        code_of 1 b (omega arith) (omega arith),
        code_of 2 c (omega arith) (omega arith),
        code_of 3 (fourth a b c) (omega arith) (d_small k),
        code_of 4 (fifth a b c) (omega arith) (e_small k),
        code_of 5 (sixth a b c) (omega arith) (f_small k),
      )
      (six-reached (parity_of k) (omega arith) (sum_of 0 a) (sum_of 1 b) (sum_of 2 c) (sum_of 3 (fourth a b c)) (sum_of 4 (fifth a b c)) (sum_of 5 (sixth a b c)))
