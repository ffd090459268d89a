-- What stands at a record's start, where the tests are known, and back; and that bytes past a record change nothing.
-- Assumes nothing.
use mathlib.Core.Path.{◌≡◌, refl, sym, ap, ◌∙◌}
use mathlib.Core.Bool.{Bool, true, false, cond}
use mathlib.Core.List.{List, [], ◌∷◌, ◌++◌}
use Prim.Native.Nat.{ℕ, zero, suc, ◌+◌, ◌-◌, ◌*◌, ◌≤◌, ◌<◌}
use native.Mathlib.Omega.{arith}
use lib.Dec.{leb, eqb, lit<}
use lib.ListN.{length, get_or, take, drop, length-append, length-drop}
use lib.Seq.{drop-drop, take-append-le, drop-append-le}
use borrow.Author.Tests.{le-leb, lt-leb, leb-true, leb-false, eq-eqb, ne_eqb}
use Rattle.std.specs.Prelude.{None, Some}
use Rattle.code.specs.Code.{positions}
use Rattle.golay.specs.Bytes.{word_of}
use Rattle.records.specs.Records.{is_old_mark, is_new_mark, Record, old_length, new_length, length_with, record_length, confidences_of, Standing, ended, stopped, whole, unfinished, standing, stands_at, in_piece, next_from, number_of, reading_of}

-- a record of either kind, by the bytes after its mark
abbrev pub old_after : List ℕ → Record
old_after rest = record { number = None; reading = confidences_of positions rest }

abbrev pub new_after : List ℕ → Record
new_after rest = record { number = Some (word_of (take 2 rest)); reading = confidences_of positions (drop 2 rest) }

-- what a standing record holds
abbrev pub held_by : Standing Record → Record
held_by s = record { number = number_of s; reading = reading_of s }

-- what stands where two bytes are left or more, by its four tests: a mark and enough bytes, of either kind
abbrev pub tested : Bool → Bool → Bool → Bool → List ℕ → Standing Record
tested isOld oldFits isNew newFits rest =
    cond isOld (cond oldFits (whole (old_after rest)) unfinished) (cond isNew (cond newFits (whole (new_after rest)) unfinished) (stopped 9))

abbrev tested_in : ℕ → ℕ → ℕ → List ℕ → Standing Record
tested_in a b left rest = tested (is_old_mark a b) (leb old_length left) (is_new_mark a b) (leb new_length left) rest

-- by the count of the bytes that are left: none, one, two and more
pub standing-none : (left : List ℕ) → length left ≡ 0 → standing left ≡ ended
unfolding standing
standing-none [] h = refl
standing-none (a ∷ left) h = let e : ⊥ = omega arith in absurd e

pub standing-one : (left : List ℕ) → length left ≡ 1 → standing left ≡ unfinished
unfolding standing
standing-one [] h = let e : ⊥ = omega arith in absurd e
standing-one (a ∷ []) h = refl
standing-one (a ∷ b ∷ left) h = let e : ⊥ = omega arith in absurd e

standing-more : (left : List ℕ) → 2 ≤ length left → standing left ≡ tested_in (get_or left 0 0) (get_or left 1 0) (length left) (drop 2 left)
unfolding standing
standing-more [] h = let e : ⊥ = omega arith in absurd e
standing-more (a ∷ []) h = let e : ⊥ = omega arith in absurd e
standing-more (a ∷ b ∷ rest) h = let l : 2 + length rest ≡ length (a ∷ b ∷ rest) = omega arith in rw l

module _ (left : List ℕ) (two : 2 ≤ length left) where
  standing-two : standing left ≡ tested_in (get_or left 0 0) (get_or left 1 0) (length left) (drop 2 left)
  standing-two = standing-more left two

  pub first-wrong : (get_or left 0 0 ≡ 0x49 → ⊥) → standing left ≡ stopped 9
  first-wrong a = rw (standing-two, ne_eqb (get_or left 0 0) 0x49 a)

  module _ (a : get_or left 0 0 ≡ 0x49) where
    by_second : (second : ℕ) → get_or left 1 0 ≡ second → standing left ≡ tested_in 0x49 second (length left) (drop 2 left)
    by_second second e = standing-two ∙ (λ i. tested_in (a i) (e i) (length left) (drop 2 left))

    pub second-wrong : (get_or left 1 0 ≡ 0x43 → ⊥) → (get_or left 1 0 ≡ 0x44 → ⊥) → standing left ≡ stopped 9
    second-wrong b c = rw (standing-two, eq-eqb (get_or left 0 0) 0x49 a, ne_eqb (get_or left 1 0) 0x43 b, ne_eqb (get_or left 1 0) 0x44 c)

    module _ (b : get_or left 1 0 ≡ 0x43) where
      pub old-short : length left < old_length → standing left ≡ unfinished
      old-short h = by_second 0x43 b ∙ rw (lt-leb old_length (length left) h)

      pub old-whole : old_length ≤ length left → standing left ≡ whole (old_after (drop 2 left))
      old-whole h = by_second 0x43 b ∙ rw (le-leb old_length (length left) h)

    module _ (b : get_or left 1 0 ≡ 0x44) where
      pub new-short : length left < new_length → standing left ≡ unfinished
      new-short h = by_second 0x44 b ∙ rw (lt-leb new_length (length left) h)

      pub new-whole : new_length ≤ length left → standing left ≡ whole (new_after (drop 2 left))
      new-whole h = by_second 0x44 b ∙ rw (le-leb new_length (length left) h)

-- ---- from what stands, back to the bytes

never : {B : Type 0} → ◌≡◌ {A = ℕ} 0 1 → B
never e = let z : ⊥ = omega arith in absurd z

-- a whole record has its bytes, and they hold its number and its confidences
data Known (left : List ℕ) (r : Record) : Type 0 where
  old : old_length ≤ length left → r ≡ old_after (drop 2 left) → Known left r
  new : new_length ≤ length left → r ≡ new_after (drop 2 left) → Known left r

whole-known : (left : List ℕ) {r : Record} → standing left ≡ whole r → Known left r
unfolding standing
whole-known [] e = never (cc)
whole-known (a ∷ []) e = never (cc)
whole-known (a ∷ b ∷ rest) {r} e =
    cases (is_old_mark a b) (leb old_length (2 + length rest)) (is_new_mark a b) (leb new_length (2 + length rest)) refl refl e
  where
    cases : (o f n g : Bool)
        → leb old_length (2 + length rest) ≡ f
        → leb new_length (2 + length rest) ≡ g
        → tested o f n g rest ≡ whole r
        → Known (a ∷ b ∷ rest) r
    cases true true n g p q e = old (omega (arith, leb-true old_length (2 + length rest) p)) (cc)
    cases true false n g p q e = never (cc)
    cases false f true true p q e = new (omega (arith, leb-true new_length (2 + length rest) q)) (cc)
    cases false f true false p q e = never (cc)
    cases false f false g p q e = never (cc)

pub whole_long : (left : List ℕ) {r : Record} → standing left ≡ whole r → (1 ≤ record_length r) × (record_length r ≤ length left)
whole_long left {r} e = cases (whole-known left e)
  where
    cases : Known left r → (1 ≤ record_length r) × (record_length r ≤ length left)
    cases (old l e) = let n : record_length r ≡ old_length = ap record_length e in (omega (arith, n), omega (arith, n))
    cases (new l e) = let n : record_length r ≡ new_length = ap record_length e in (omega (arith, n), omega (arith, n))

-- ---- in a piece

-- the confidences that bytes in front hold
confidences-front : (n : ℕ) (front rest : List ℕ) → 4 * n ≤ length front → confidences_of n (front ++ rest) ≡ confidences_of n front
unfolding confidences_of
confidences-front zero front rest h = refl
confidences-front (suc n) front rest h =
    let l : 4 ≤ length front = omega arith in
    let m : 4 * n ≤ length (drop 4 front) = simp length-drop (omega arith) in
    rw (take-append-le 4 front rest l, drop-append-le 4 front rest l, confidences-front n (drop 4 front) rest m)

-- a whole record is one in every piece
pub piece_whole : (last : Bool) (s : Standing Record) {r : Record} → in_piece last s ≡ whole r → s ≡ whole r
piece_whole last ended e = never (cc)
piece_whole true (stopped n) e = e
piece_whole false (stopped n) {r} e = cases (eqb n 10) e
  where
    cases : (b : Bool) → cond b ended (stopped n) ≡ whole r → stopped n ≡ whole r
    cases true e = never (cc)
    cases false e = never (cc)
piece_whole last (whole r) e = e

-- in the last one all stands as it does
in_last : (s : Standing Record) → in_piece true s ≡ s
in_last ended = refl
in_last (stopped n) = refl
in_last (whole r) = refl

-- where it ends in a piece that is not the last, less than a record is left
pub ended-short : (left : List ℕ) → in_piece false (standing left) ≡ ended → length left < new_length
unfolding standing
ended-short [] e = lit< tt
ended-short (a ∷ []) e = lit< tt
ended-short (a ∷ b ∷ rest) e =
    cases (is_old_mark a b) (leb old_length (2 + length rest)) (is_new_mark a b) (leb new_length (2 + length rest)) refl refl e
  where
    cases : (o f n g : Bool)
        → leb old_length (2 + length rest) ≡ f
        → leb new_length (2 + length rest) ≡ g
        → in_piece false (tested o f n g rest) ≡ ended
        → length (a ∷ b ∷ rest) < new_length
    cases true true n g p q e = never (cc)
    cases true false n g p q e = omega (arith, leb-false old_length (2 + length rest) p)
    cases false f true true p q e = never (cc)
    cases false f true false p q e = omega (arith, leb-false new_length (2 + length rest) q)
    cases false f false g p q e = never (cc)

-- elsewhere bytes that follow change nothing
piece_front :
    (front rest : List ℕ)
    → (in_piece false (standing front) ≡ ended → ⊥)
    → in_piece true (standing (front ++ rest)) ≡ in_piece false (standing front)
unfolding standing
piece_front [] rest h = absurd (h refl)
piece_front (a ∷ []) rest h = absurd (h refl)
piece_front (a ∷ b ∷ front) rest h =
    in_last (standing (a ∷ b ∷ front ++ rest))
    ∙ cases (is_old_mark a b) (leb old_length (2 + length front)) (is_new_mark a b) (leb new_length (2 + length front)) refl refl h
  where
    longer : (n : ℕ) → leb n (2 + length front) ≡ true → leb n (2 + length (front ++ rest)) ≡ true
    longer n p = let l = leb-true n (2 + length front) p in le-leb n (2 + length (front ++ rest)) (simp length-append (omega arith))

    cases : (o f n g : Bool)
        → leb old_length (2 + length front) ≡ f
        → leb new_length (2 + length front) ≡ g
        → (in_piece false (tested o f n g front) ≡ ended → ⊥)
        → tested o (leb old_length (2 + length (front ++ rest))) n (leb new_length (2 + length (front ++ rest))) (front ++ rest)
        ≡ in_piece false (tested o f n g front)
    cases true true n g p q h =
        let l = leb-true old_length (2 + length front) p in
        rw (longer old_length p, confidences-front positions front rest (omega arith))
    cases true false n g p q h = absurd (h refl)
    cases false f true true p q h =
        let l = leb-true new_length (2 + length front) q in
        let m : 4 * positions ≤ length (drop 2 front) = simp length-drop (omega arith) in
        rw (
          longer new_length q,
          take-append-le 2 front rest (omega arith),
          drop-append-le 2 front rest (omega arith),
          confidences-front positions (drop 2 front) rest m,
        )
    cases false f true false p q h = absurd (h refl)
    cases false f false g p q h = refl

pub stopped-front :
    (front rest : List ℕ) {n : ℕ} → in_piece false (standing front) ≡ stopped n → in_piece true (standing (front ++ rest)) ≡ stopped n
stopped-front front rest {n} e = piece_front front rest (λ z. never (other (sym e ∙ z))) ∙ e
  where
    other : ◌≡◌ {A = Standing Record} (stopped n) ended → ◌≡◌ {A = ℕ} 0 1
    other z = cc

pub whole-front :
    (front rest : List ℕ) {r : Record} → in_piece false (standing front) ≡ whole r → in_piece true (standing (front ++ rest)) ≡ whole r
whole-front front rest {r} e = piece_front front rest (λ z. never (other (sym e ∙ z))) ∙ e
  where
    other : ◌≡◌ {A = Standing Record} (whole r) ended → ◌≡◌ {A = ℕ} 0 1
    other z = cc

-- ---- what stands, from what is told of it

module _ (at : ℕ) where
  pub next-ended : (s : Standing Record) → next_from at s ≡ ended → s ≡ ended
  next-ended ended e = refl
  next-ended (stopped n) e = never (cc)
  next-ended (whole r) e = never (cc)

  pub next-stopped : {number : ℕ} (s : Standing Record) → next_from at s ≡ stopped number → s ≡ stopped number
  next-stopped ended e = never (cc)
  next-stopped (stopped n) e = cc
  next-stopped (whole r) e = never (cc)

  pub next-whole :
      {next : ℕ} (s : Standing Record)
      → next_from at s ≡ whole next
      → (s ≡ whole (held_by s)) × (next ≡ at + length_with (number_of s))
  next-whole ended e = never (cc)
  next-whole (stopped n) e = never (cc)
  next-whole (whole r) e = (refl, cc)

-- in the last piece all is told as it stands
module _ (bytes : List ℕ) (at : ℕ) where
  pub last_ended : next_from at (in_piece true (stands_at bytes at)) ≡ ended → stands_at bytes at ≡ ended
  last_ended e = sym (in_last (stands_at bytes at)) ∙ next-ended at (in_piece true (stands_at bytes at)) e

  pub last_stopped : {n : ℕ} → next_from at (in_piece true (stands_at bytes at)) ≡ stopped n → stands_at bytes at ≡ stopped n
  last_stopped e = sym (in_last (stands_at bytes at)) ∙ next-stopped at (in_piece true (stands_at bytes at)) e

-- the record at a place takes the bytes up to the next: of either kind, and what it holds
pub data Takes (bytes : List ℕ) (at next : ℕ) : Type 0 where
  old : next ≡ at + old_length → next ≤ length bytes → stands_at bytes at ≡ whole (old_after (drop (at + 2) bytes)) → Takes bytes at next
  new : next ≡ at + new_length → next ≤ length bytes → stands_at bytes at ≡ whole (new_after (drop (at + 2) bytes)) → Takes bytes at next

pub whole_takes : (last : Bool) (bytes : List ℕ) (at : ℕ) {next : ℕ} → next_from at (in_piece last (stands_at bytes at)) ≡ whole next → Takes bytes at next
whole_takes last bytes at {next} e =
    let w = next-whole at (in_piece last (stands_at bytes at)) e in
    let s = piece_whole last (stands_at bytes at) w.0 in
    cases (whole-known (drop at bytes) s) s w.1
  where
    long : length (drop at bytes) ≡ length bytes - at
    long = length-drop at bytes

    cases : {r : Record} → Known (drop at bytes) r → stands_at bytes at ≡ whole r → next ≡ at + record_length r → Takes bytes at next
    cases (old l e) s n =
        let m = n ∙ ap (λ (r : Record). at + record_length r) e in
        old m (omega (arith, m, long)) (s ∙ ap whole e ∙ ap (λ (l : List ℕ). whole (old_after l)) (drop-drop 2 at bytes))
    cases (new l e) s n =
        let m = n ∙ ap (λ (r : Record). at + record_length r) e in
        new m (omega (arith, m, long)) (s ∙ ap whole e ∙ ap (λ (l : List ℕ). whole (new_after l)) (drop-drop 2 at bytes))

module _ {bytes : List ℕ} {at next : ℕ} where
  pub takes_room : Takes bytes at next → (at + old_length ≤ next) × (next ≤ length bytes)
  takes_room (old n l e) = (omega (arith, n), l)
  takes_room (new n l e) = (omega (arith, n), l)

  pub takes_reading : Takes bytes at next → reading_of (stands_at bytes at) ≡ confidences_of positions (drop (next - 96) bytes)
  takes_reading (old n l e) =
      let m : at + 2 ≡ next - 96 = omega (arith, n) in
      ap reading_of e ∙ ap (λ (k : ℕ). confidences_of positions (drop k bytes)) m
  takes_reading (new n l e) =
      let m : at + 2 + 2 ≡ next - 96 = omega (arith, n) in
      ap reading_of e ∙ ap (confidences_of positions) (drop-drop 2 (at + 2) bytes ∙ ap (λ (k : ℕ). drop k bytes) m)

  -- which kind it is shows by its length
  pub takes_old : Takes bytes at next → next - at ≡ old_length → number_of (stands_at bytes at) ≡ None
  takes_old (old n l e) h = ap number_of e
  takes_old (new n l e) h = let z : ⊥ = omega (arith, n, h) in absurd z

  pub takes_new : Takes bytes at next → (next - at ≡ old_length → ⊥) → number_of (stands_at bytes at) ≡ Some (word_of (take 2 (drop (at + 2) bytes)))
  takes_new (old n l e) h = absurd (h (omega (arith, n)))
  takes_new (new n l e) h = ap number_of e
