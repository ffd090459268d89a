-- The run up to a place of the bytes: what it counted so far, and what is left of the bytes gives the rest. By what stands at the place, the run
-- goes on, ends or stops.
-- Assumes nothing.
use mathlib.Core.Path.{◌≡◌, refl, sym, ap, ◌∙◌}
use mathlib.Core.Bool.{Bool}
use mathlib.Core.List.{List, [], ◌∷◌}
use Prim.Native.Nat.{ℕ, ◌+◌, ◌≤◌}
use native.Mathlib.Nat.{add-zero}
use native.Mathlib.Omega.{arith}
use lib.IntN.{ℤ}
use lib.ListN.{length, drop}
use Rattle.std.specs.Prelude.{Option, None, Some, MatchOption}
use Rattle.golay.specs.Answers.{Answer}
use Rattle.golay.specs.Refusals.{number}
use Rattle.golay.specs.declared.kinds.Refusal.{Refusal}
use Rattle.decoding.specs.Decoding.{Decoder}
use Rattle.sequence.specs.Sequence.{previous_after}
use Rattle.records.specs.Records.{ended, stopped, whole, stands_at, in_piece, next_from, number_of, reading_of}
use Rattle.records.specs.Capture.{run_from}
use Rattle.records.proofs.Standing.{whole_takes, takes_room}
use Rattle.records.proofs.Running.{told-ended, told-stopped, told-whole}
use Rattle.totals.specs.Totals.{Totals}
use Rattle.tally.specs.Counts.{Counts}
use Rattle.tally.specs.History.{with_reading, tallied}
use Rattle.counting.specs.Reports.{readings, came}
use Rattle.contents.specs.Walks.{NoRecord, NoStop}
use Rattle.contents.proofs.Walks.{neither}
use Rattle.counting.specs.Counting.{stop_number, CountsRun}
use Rattle.counting.proofs.Unnumbered.{readings_anywhere, came_after_any}

-- no reading, and one before others
pub tallied-none : (decode : List ℤ → Answer (ℕ × ℕ)) (T : Totals) → tallied decode T [] ≡ T
unfolding tallied
tallied-none decode T = refl

pub tallied-first :
    (decode : List ℤ → Answer (ℕ × ℕ)) (T : Totals) (xs : List ℤ) (later : List (List ℤ))
    → tallied decode T (xs ∷ later) ≡ tallied decode (with_reading decode T xs) later
unfolding tallied
tallied-first decode T xs later = refl

module _ (last : Bool) (bytes : List ℕ) (before : Totals) where
  pub record Upto (T : Totals) (at : ℕ) : Type 0 where
    pub within : at ≤ length bytes
    pub counted : (decode : List ℤ → Answer (ℕ × ℕ)) → Decoder decode → (previous : Option ℕ) (offset : ℕ)
        → tallied decode before (run_from readings last previous offset bytes)
        ≡ tallied decode T (run_from readings last previous (offset + at) (drop at bytes))
    pub ends : (previous : Option ℕ) (offset : ℕ)
        → run_from came last previous offset bytes ≡ run_from came last previous (offset + at) (drop at bytes)

  pub up_start : Upto before 0
  up_start = record {
    within = omega arith;
    counted = λ decode D previous offset. ap (λ (k : ℕ). tallied decode before (run_from readings last previous k bytes)) (sym (add-zero offset));
    ends = λ previous offset. ap (λ (k : ℕ). run_from came last previous k bytes) (sym (add-zero offset));
  }

  module _ {T : Totals} {at : ℕ} (U : Upto T at) where
    pub up_record :
        {later : Totals} {next status : ℕ}
        → let s = stands_at bytes at in
        next_from at (in_piece last s) ≡ whole next
        → Counts (reading_of s) T later status
        → Upto later next
    up_record {later} {next} e C =
        let s = stands_at bytes at in
        record {
          within = (takes_room (whole_takes last bytes at e)).1;
          counted = λ decode D previous offset.
              let rest = run_from readings last (previous_after previous (number_of s)) (offset + next) (drop next bytes) in
              U.counted decode D previous offset
              ∙ ap (tallied decode T) (told-whole readings last previous offset bytes at e)
              ∙ tallied-first decode T (reading_of s) rest
              ∙ ap (λ (made : Totals). tallied decode made rest) (sym (C.handed decode D).output-is)
              ∙ ap (tallied decode later)
              (readings_anywhere last (previous_after previous (number_of s)) previous (offset + next) (offset + next) (drop next bytes));
          ends = λ previous offset.
              U.ends previous offset
              ∙ told-whole came last previous offset bytes at e
              ∙ came_after_any last (previous_after previous (number_of s)) previous (offset + next) (drop next bytes);
        }

    pub up_ended : next_from at (in_piece last (stands_at bytes at)) ≡ ended → CountsRun last bytes before T 0 at
    up_ended e = record {
      counted = λ decode D previous offset.
          sym
          (U.counted decode D previous offset
          ∙ ap (tallied decode T) (told-ended readings last previous offset bytes at e)
          ∙ tallied-none decode T);
      ended = λ previous offset. sym (U.ends previous offset ∙ told-ended came last previous offset bytes at e);
    }

    pub up_stopped : {n : ℕ} → next_from at (in_piece last (stands_at bytes at)) ≡ stopped n → CountsRun last bytes before T n at
    up_stopped e = record {
      counted = λ decode D previous offset.
          sym
          (U.counted decode D previous offset
          ∙ ap (tallied decode T) (told-stopped readings last previous offset bytes at e)
          ∙ tallied-none decode T);
      ended = λ previous offset. sym (U.ends previous offset ∙ told-stopped came last previous offset bytes at e);
    }

    pub up_done :
        (stop : Option Refusal)
        → let p = next_from at (in_piece last (stands_at bytes at)) in
        NoRecord p
        → MatchOption stop (NoStop p) (λ reason. p ≡ stopped (number reason))
        → CountsRun last bytes before T (stop_number stop) at
    up_done None r s = up_ended (neither (next_from at (in_piece last (stands_at bytes at))) r s)
    up_done (Some reason) r s = up_stopped s
