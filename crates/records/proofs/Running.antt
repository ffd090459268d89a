-- The run over a capture, record by record: what each answer of `stands_at` makes of it, for whatever is told of its records.
-- Assumes nothing.
use mathlib.Core.Path.{◌≡◌, refl, sym, ap, ◌∙◌}
use mathlib.Core.Bool.{Bool, false}
use mathlib.Core.List.{List, [], ◌∷◌}
use Prim.Native.Nat.{ℕ, zero, suc, ◌+◌, ◌-◌, ◌≤◌, ◌<◌}
use native.Mathlib.Omega.{arith}
use lib.ListN.{length, drop, length-drop}
use lib.Seq.{drop-drop}
use Rattle.std.specs.Prelude.{Option}
use Rattle.sequence.specs.Sequence.{previous_after}
use Rattle.records.specs.Records.{Record, new_length, length_with, record_length, Standing, ended, stopped, whole, standing, stands_at, in_piece, next_from, number_of}
use Rattle.records.specs.Capture.{Telling, run_at, run_in, run_from, Ending, ending}
use Rattle.records.proofs.Standing.{held_by, whole_long, piece_whole, ended-short, next-ended, next-stopped, next-whole}

module _ {A : Type 0} (t : Telling A) (last : Bool) where
  -- the run after a record counts only where a record stands
  later_same :
      (previous : Option ℕ) (offset : ℕ) {f g : Record → A} (s : Standing Record)
      → ((r : Record) → s ≡ whole r → f r ≡ g r)
      → run_at t last previous offset f s ≡ run_at t last previous offset g s
  later_same previous offset ended h = refl
  later_same previous offset (stopped n) h = refl
  later_same previous offset (whole r) h = ap (t.at_record previous r) (h r refl)

  nothing_left :
      (fuel : ℕ) (previous : Option ℕ) (offset : ℕ) (left : List ℕ)
      → length left ≤ 0
      → run_in t last fuel previous offset left ≡ t.at_end previous offset
  unfolding run_in standing
  nothing_left zero previous offset left h = refl
  nothing_left (suc fuel) previous offset [] h = refl
  nothing_left (suc fuel) previous offset (x ∷ left) h = let e : ⊥ = omega arith in absurd e

  -- more fuel than bytes changes nothing
  enough :
      (m n : ℕ) (previous : Option ℕ) (offset : ℕ) (left : List ℕ)
      → length left ≤ m
      → length left ≤ n
      → run_in t last m previous offset left ≡ run_in t last n previous offset left
  unfolding run_in
  enough zero n previous offset left h l = sym (nothing_left n previous offset left h)
  enough (suc m) zero previous offset left h l = nothing_left (suc m) previous offset left l
  enough (suc m) (suc n) previous offset left h l =
      later_same previous offset (in_piece last (standing left))
      (λ r e.
      let k = whole_long left (piece_whole last (standing left) e) in
      enough m n (previous_after previous r.number) (offset + record_length r) (drop (record_length r) left)
      (simp length-drop (omega (arith, k.0, k.1)))
      (simp length-drop (omega (arith, k.0, k.1))))

  -- the run after a record
  abbrev after : Option ℕ → ℕ → List ℕ → Record → A
  after previous offset left r = run_from t last (previous_after previous r.number) (offset + record_length r) (drop (record_length r) left)

  module _ (previous : Option ℕ) (offset : ℕ) (left : List ℕ) where
    run-standing : run_from t last previous offset left ≡ run_at t last previous offset (after previous offset left) (in_piece last (standing left))
    unfolding run_in
    run-standing =
        enough (length left) (suc (length left)) previous offset left (omega arith) (omega arith)
        ∙ later_same previous offset (in_piece last (standing left))
        (λ r e.
        enough (length left) (length (drop (record_length r) left)) (previous_after previous r.number) (offset + record_length r) (drop (record_length r) left)
        (simp length-drop (omega arith))
        (omega arith))

    -- by what stands at the record's start
    pub run-ended : in_piece last (standing left) ≡ ended → run_from t last previous offset left ≡ t.at_end previous offset
    run-ended e = run-standing ∙ ap (run_at t last previous offset (after previous offset left)) e

    pub run-stopped : {n : ℕ} → in_piece last (standing left) ≡ stopped n → run_from t last previous offset left ≡ t.at_stop n previous offset
    run-stopped e = run-standing ∙ ap (run_at t last previous offset (after previous offset left)) e

    pub run-whole :
        {r : Record}
        → in_piece last (standing left) ≡ whole r
        → run_from t last previous offset left ≡ t.at_record previous r (after previous offset left r)
    run-whole e = run-standing ∙ ap (run_at t last previous offset (after previous offset left)) e

  -- by what `stands_at` says of a place, in bytes that begin at an offset
  module _ (previous : Option ℕ) (offset : ℕ) (bytes : List ℕ) (at : ℕ) where
    pub told-ended :
        next_from at (in_piece last (stands_at bytes at)) ≡ ended
        → run_from t last previous (offset + at) (drop at bytes) ≡ t.at_end previous (offset + at)
    told-ended e = run-ended previous (offset + at) (drop at bytes) (next-ended at (in_piece last (stands_at bytes at)) e)

    pub told-stopped :
        {n : ℕ}
        → next_from at (in_piece last (stands_at bytes at)) ≡ stopped n
        → run_from t last previous (offset + at) (drop at bytes) ≡ t.at_stop n previous (offset + at)
    told-stopped e = run-stopped previous (offset + at) (drop at bytes) (next-stopped at (in_piece last (stands_at bytes at)) e)

    pub told-whole :
        {next : ℕ}
        → next_from at (in_piece last (stands_at bytes at)) ≡ whole next
        → let s = stands_at bytes at in
        run_from t last previous (offset + at) (drop at bytes)
        ≡ t.at_record previous (held_by s) (run_from t last (previous_after previous (number_of s)) (offset + next) (drop next bytes))
    told-whole {next} e =
        let s = in_piece last (stands_at bytes at) in
        let w = next-whole at s e in
        let stands = w.0 ∙ sym (piece_whole last (stands_at bytes at) w.0) in
        let place : offset + at + length_with (number_of s) ≡ offset + next = omega (arith, w.1) in
        let later : drop (length_with (number_of s)) (drop at bytes) ≡ drop next bytes =
        drop-drop (length_with (number_of s)) at bytes ∙ ap (λ (k : ℕ). drop k bytes) (sym w.1) in
        run-whole previous (offset + at) (drop at bytes) w.0
        ∙ (λ i. t.at_record previous (held_by s) (run_from t last (previous_after previous (number_of s)) (place i) (later i)))
        ∙ ap
        (λ (u : Standing Record). t.at_record previous (held_by u) (run_from t last (previous_after previous (number_of u)) (offset + next) (drop next bytes)))
        stands

-- no run comes farther than its bytes
end_within :
    (last : Bool) (fuel : ℕ) (previous : Option ℕ) (offset : ℕ) (left : List ℕ)
    → (run_in ending last fuel previous offset left).offset ≤ offset + length left
unfolding run_in
end_within last zero previous offset left = omega arith
end_within last (suc fuel) previous offset left =
    cases (in_piece last (standing left)) refl
    (λ r. end_within last fuel (previous_after previous r.number) (offset + record_length r) (drop (record_length r) left))
  where
    later : Record → Ending
    later r = run_in ending last fuel (previous_after previous r.number) (offset + record_length r) (drop (record_length r) left)

    cases : (s : Standing Record)
        → in_piece last (standing left) ≡ s
        → ((r : Record) → (later r).offset ≤ offset + record_length r + length (drop (record_length r) left))
        → (run_at ending last previous offset later s).offset ≤ offset + length left
    cases ended q tail = omega arith
    cases (stopped n) q tail = omega arith
    cases (whole r) q tail =
        let k = whole_long left (piece_whole last (standing left) q) in
        omega (arith, tail r, k.1, length-drop (record_length r) left)

pub end_near :
    (last : Bool) (previous : Option ℕ) (offset : ℕ) (left : List ℕ) → (run_from ending last previous offset left).offset ≤ offset + length left
end_near last previous offset left = end_within last (length left) previous offset left

-- a run over a piece that more may follow, where it did not stop, leaves less than a record
left_within :
    (fuel : ℕ) (previous : Option ℕ) (offset : ℕ) (left : List ℕ)
    → length left ≤ fuel
    → (run_in ending false fuel previous offset left).stopped ≡ false
    → offset + length left < (run_in ending false fuel previous offset left).offset + new_length
unfolding run_in
left_within zero previous offset left h e = omega arith
left_within (suc fuel) previous offset left h e =
    cases (in_piece false (standing left)) refl e
    (λ r. left_within fuel (previous_after previous r.number) (offset + record_length r) (drop (record_length r) left))
  where
    later : Record → Ending
    later r = run_in ending false fuel (previous_after previous r.number) (offset + record_length r) (drop (record_length r) left)

    cases : (s : Standing Record)
        → in_piece false (standing left) ≡ s
        → (run_at ending false previous offset later s).stopped ≡ false
        → ((r : Record)
        → length (drop (record_length r) left) ≤ fuel
        → (later r).stopped ≡ false
        → offset + record_length r + length (drop (record_length r) left) < (later r).offset + new_length)
        → offset + length left < (run_at ending false previous offset later s).offset + new_length
    cases ended q e tail = omega (arith, ended-short left q)
    cases (stopped n) q e tail = let z : ◌≡◌ {A = ℕ} 0 1 = cc in absurd (omega arith)
    cases (whole r) q e tail =
        let k = whole_long left (piece_whole false (standing left) q) in
        let long : length (drop (record_length r) left) ≡ length left - record_length r = length-drop (record_length r) left in
        omega (arith, tail r (omega (arith, k.0, k.1, long)) e, k.0, k.1, long)

pub left_short :
    (previous : Option ℕ) (offset : ℕ) (left : List ℕ)
    → (run_from ending false previous offset left).stopped ≡ false
    → offset + length left < (run_from ending false previous offset left).offset + new_length
left_short previous offset left = left_within (length left) previous offset left (omega arith)
