-- The slots are filled from both ends: what holds before each place, and how each way of a turn keeps it.
-- Assumes nothing.
use mathlib.Core.Path.{◌≡◌, refl, sym, ap, ap₂, ◌∙◌, subst}
use mathlib.Core.Bool.{Bool, true, false, not}
use mathlib.Core.List.{List, [], ◌∷◌, ◌++◌, append_assoc, append-nil}
use Prim.Native.Nat.{ℕ, suc, ◌+◌, ◌-◌, ◌*◌, ◌/◌, ◌%◌, ◌^◌, ◌≤◌, ◌<◌}
use native.Mathlib.Numerals.{add-one}
use native.Mathlib.Nat.{one-mul, mod-eq_of_lt, add-zero, zero-add, le_refl}
use native.Mathlib.Omega.{arith}
use lib.Dec.{T, not_T, ltb→lt, lt→ltb, eqb→eq}
use lib.Pow.{pow-lt, pow_mono}
use lib.Bits.{bit_xor, xor_lt}
use lib.ListN.{get_or, length, take, drop, set, length-set, take-append-drop, drop_of_length-le}
use lib.Seq.{take-suc-set, take-set-le, drop-set-lt, drop-cons, get_or-set_same}
use Rattle.code.specs.Code.{words, syndromes}
use Rattle.code.proofs.Syndromes.{syndrome_rows}
use Rattle.patterns.specs.Patterns.{IsPattern}
use Rattle.patterns.proofs.Patterns.{pattern_unique}
use Rattle.table.proofs.Fours.{rest, leads, four, one, pattern_of_lem, row_lt}
use Rattle.candidates.specs.Candidates.{Candidates, AtFour}
use Rattle.candidates.proofs.Arrange.{put, is_set, arrange, put-length, at-four_lt, arrange_candidates}

-- the slots before `first` and from `end` on are done: what leads below place i goes between
pub record FilledFrom (word s : ℕ) (slots : List ℕ) (first end i : ℕ) : Type 0 where
  pub bound : i ≤ 24
  pub size : length slots ≡ 6
  pub room : end ≤ 6
  pub gap : first + length (arrange word s i) ≡ end
  pub parts : take first slots ++ (arrange word s i ++ drop end slots) ≡ arrange word s 24

one_true : (b : Bool) → T b → one b ≡ 1
one_true true t = refl
one_true false t = absurd t

put_front : (b d : Bool) (c : ℕ) (cs : List ℕ) → T b → T d → put b d c cs ≡ c ∷ cs
put_front true true c cs t u = refl
put_front true false c cs t u = absurd u
put_front false d c cs t u = absurd t

put_back : (b d : Bool) (c : ℕ) (cs : List ℕ) → T b → T (not d) → put b d c cs ≡ cs ++ (c ∷ [])
put_back true true c cs t u = absurd u
put_back true false c cs t u = refl
put_back false d c cs t u = absurd t

put-none : (b d : Bool) (c : ℕ) (cs : List ℕ) → T (not b) → put b d c cs ≡ cs
put-none true d c cs t = absurd t
put-none false d c cs t = refl

module _ (word s : ℕ) (slots : List ℕ) (first end n : ℕ) (v : FilledFrom word s slots first end (suc n)) where
  abbrev c : ℕ
  c = bit_xor word (four s n)

  abbrev cs : List ℕ
  cs = arrange word s n

  skip : T (not (leads s n)) → FilledFrom word s slots first end n
  skip t =
      let e : arrange word s (suc n) ≡ cs = put-none (leads s n) (is_set word n) c cs t in
      record {
        bound = omega (arith, v.bound);
        size = v.size;
        room = v.room;
        gap = ap (λ (l : List ℕ). first + length l) (sym e) ∙ v.gap;
        parts = ap (λ (l : List ℕ). take first slots ++ (l ++ drop end slots)) (sym e) ∙ v.parts;
      }

  leads_gap : T (leads s n) → first + 1 + length cs ≡ end
  leads_gap t = omega (arith, v.gap, put-length (leads s n) (is_set word n) c cs, one_true (leads s n) t)

  front : T (leads s n) → T (is_set word n) → FilledFrom word s (set slots first c) (first + 1) end n
  front t u =
      let g = leads_gap t in
      let l : first < length slots = omega (arith, v.size, v.room) in
      record {
        bound = omega (arith, v.bound);
        size = length-set slots first c ∙ v.size;
        room = v.room;
        gap = g;
        parts =
            ap₂ (λ (x y : List ℕ). x ++ (cs ++ y))
            (ap (λ (j : ℕ). take j (set slots first c)) (add-one first) ∙ take-suc-set slots first c l)
            (drop-set-lt end slots first c (omega arith))
            ∙ append_assoc (take first slots) (c ∷ []) (cs ++ drop end slots)
            ∙ ap (λ (x : List ℕ). take first slots ++ (x ++ drop end slots)) (sym (put_front (leads s n) (is_set word n) c cs t u))
            ∙ v.parts;
      }

  back : (last : ℕ) → end ≡ suc last → T (leads s n) → T (not (is_set word n)) → FilledFrom word s (set slots last c) first last n
  back last e t u =
      let g = leads_gap t in
      let l : last < length slots = omega (arith, v.size, v.room) in
      record {
        bound = omega (arith, v.bound);
        size = length-set slots last c ∙ v.size;
        room = omega (arith, v.room);
        gap = omega arith;
        parts =
            ap₂ (λ (x y : List ℕ). x ++ (cs ++ y))
            (take-set-le first slots last c (omega arith))
            (drop-cons (set slots last c) last 0 (rw length-set l)
            ∙ ap₂ ◌∷◌ (get_or-set_same slots last c 0 l) (drop-set-lt (suc last) slots last c (le_refl (suc last)) ∙ ap (λ (j : ℕ). drop j slots) (sym e)))
            ∙ ap (λ (x : List ℕ). take first slots ++ x) (sym (append_assoc cs (c ∷ []) (drop end slots)))
            ∙ ap (λ (x : List ℕ). take first slots ++ (x ++ drop end slots)) (sym (put_back (leads s n) (is_set word n) c cs t u))
            ∙ v.parts;
      }

-- ---- a turn in the terms of the code: place n is worth 1 shifted by n, and f is the pattern that it reads

pub record Turn (word s : ℕ) (slots : List ℕ) (first end i f : ℕ) : Type 0 where
  pub at-four : AtFour word s
  pub filled : FilledFrom word s slots first end i
  pub more : 0 < i
  pub read : IsPattern (bit_xor s (get_or syndrome_rows (i - 1) 0) % syndromes) f

module _ {word s : ℕ} {slots : List ℕ} {first end i f : ℕ} (t : Turn word s slots first end i f) where
  abbrev n : ℕ
  n = i - 1

  abbrev place : ℕ
  place = 1 * 2 ^ n % 2 ^ 32

  this : FilledFrom word s slots first end (suc n)
  this = subst (FilledFrom word s slots first end) (let e : i ≡ suc (i - 1) = omega (arith, t.more) in e) t.filled

  place_lt : n < 24
  place_lt = omega (arith, t.filled.bound, t.more)

  place-worth : place ≡ 2 ^ n
  place-worth = ap (λ (x : ℕ). x % 2 ^ 32) (one-mul (2 ^ n)) ∙ mod-eq_of_lt (pow-lt {j = 32} (omega (arith, place_lt)))

  left_lt : bit_xor s (get_or syndrome_rows n 0) < syndromes
  left_lt = xor_lt 12 s (get_or syndrome_rows n 0) (at-four_lt word s t.at-four) (row_lt n place_lt)

  rest_read : f ≡ rest s n
  rest_read = pattern_unique (rw (mod-eq_of_lt left_lt) at t.read) (pattern_of_lem (bit_xor s (get_or syndrome_rows n 0)) left_lt)

  leads_read : f < place → T (leads s n)
  leads_read l = lt→ltb (rest s n) (2 ^ n) (rw (← rest_read, ← place-worth) l)

  candidate-read : bit_xor word (four s n) ≡ bit_xor word (place + f)
  candidate-read = ap₂ (λ (x y : ℕ). bit_xor word (x + y)) (sym place-worth) (sym rest_read)

  pub turn-word : f < place → place + f < words
  turn-word l = let h : n ≤ 23 = omega (arith, place_lt) in omega (arith, place-worth, pow_mono h)

  pub turn-room : f < place → first < end
  turn-room l = omega (arith, leads_gap word s slots first end n this (leads_read l))

  pub turn_skip : place ≤ f → FilledFrom word s slots first end n
  turn_skip l =
      skip word s slots first end n this
      (not_T (leads s n) (λ t. let e : ⊥ = omega (arith, ltb→lt (rest s n) (2 ^ n) t, rest_read, place-worth) in e))

  pub turn-front : f < place → word / 2 ^ n % 2 ≡ 1 → FilledFrom word s (set slots first (bit_xor word (place + f))) (first + 1) end n
  turn-front l o =
      subst (λ (x : ℕ). FilledFrom word s (set slots first x) (first + 1) end n) candidate-read
      (front word s slots first end n this (leads_read l) (rw o tt))

  pub turn_back : f < place → (word / 2 ^ n % 2 ≡ 1 → ⊥) → FilledFrom word s (set slots (end - 1) (bit_xor word (place + f))) first (end - 1) n
  turn_back l o =
      subst (λ (x : ℕ). FilledFrom word s (set slots (end - 1) x) first (end - 1) n) candidate-read
      (back word s slots first end n this (end - 1) (omega (arith, turn-room l)) (leads_read l)
      (not_T (is_set word n) (λ t. o (eqb→eq (word / 2 ^ n % 2) 1 t))))

-- ---- the first place and the last

pub begun : (word s : ℕ) (slots : List ℕ) → AtFour word s → length slots ≡ 6 → FilledFrom word s slots 0 6 24
begun word s slots a l = record {
  bound = le_refl 24;
  size = l;
  room = le_refl 6;
  gap = zero-add (length (arrange word s 24)) ∙ (arrange_candidates word s a).six;
  parts = rw (drop_of_length-le slots {i = 6} (omega arith)) (append-nil (arrange word s 24));
}

module _ {word s : ℕ} {slots : List ℕ} {first end i : ℕ} (v : FilledFrom word s slots first end i) (z : i ≡ 0) where
  met : first ≡ end
  met = sym (add-zero first) ∙ ap (λ (j : ℕ). first + length (arrange word s j)) (sym z) ∙ v.gap

  all_filled : slots ≡ arrange word s 24
  all_filled =
      sym (take-append-drop first slots)
      ∙ ap₂ (λ (j k : ℕ). take first slots ++ (arrange word s j ++ drop k slots)) (sym z) met
      ∙ v.parts

  pub done : AtFour word s → Candidates word slots
  done a = subst (Candidates word) (sym all_filled) (arrange_candidates word s a)
