-- Rules 12.2 to 12.4, 12.7 and 12.9: the run over a capture, or over a piece of it, as a function of its bytes, for whatever is told of its
-- records. Its state at a record's start is the previous number and the offset.
use Rattle.std.specs.Prelude.{Bool, true, false, List, [], ◌++◌, Option, ℕ, zero, suc, ◌+◌, length, drop}
use Rattle.sequence.specs.Sequence.{previous_after}
use Rattle.records.specs.Records.{Record, record_length, Standing, ended, stopped, whole, standing, in_piece}

-- what is made of a run: at its end, and at a stop with its number, from the state there; and of a record, from the previous number, and the
-- rest of the run
pub record Telling (A : Type 0) : Type 0 where
  pub at_end : Option ℕ → ℕ → A
  pub at_stop : ℕ → Option ℕ → ℕ → A
  pub at_record : Option ℕ → Record → A → A

-- a list: of what is told of each record, in their order, and of a stop
abbrev pub listed : {X : Type 0} → (Option ℕ → Record → List X) → (ℕ → Option ℕ → ℕ → List X) → Telling (List X)
listed ofRecord ofStop = record {
  at_end = λ previous offset. [];
  at_stop = ofStop;
  at_record = λ previous r later. ofRecord previous r ++ later;
}

-- over bytes that are the last of the input, or not
module _ {A : Type 0} (t : Telling A) (last : Bool) where
  -- Rules 12.3 and 12.4: the run from a record's start; later is the run after a whole record
  abbrev pub run_at : Option ℕ → ℕ → (Record → A) → Standing Record → A
  run_at previous offset later ended = t.at_end previous offset
  run_at previous offset later (stopped n) = t.at_stop n previous offset
  run_at previous offset later (whole r) = t.at_record previous r (later r)

  -- Rule 12.2: each further record starts right after the one before; at most fuel records
  unfoldable pub run_in : ℕ → Option ℕ → ℕ → List ℕ → A
  run_in zero previous offset left = t.at_end previous offset
  run_in (suc fuel) previous offset left =
      run_at previous offset
      (λ r. run_in fuel (previous_after previous r.number) (offset + record_length r) (drop (record_length r) left))
      (in_piece last (standing left))

  -- no capture has more records than bytes
  abbrev pub run_from : Option ℕ → ℕ → List ℕ → A
  run_from previous offset left = run_in (length left) previous offset left

-- Rules 12.4 and 12.9: how a run ended: whether it stopped, with 9 or 10, and its state there
pub record Ending : Type 0 where
  pub stopped : Bool
  pub previous : Option ℕ
  pub offset : ℕ

abbrev pub ending : Telling Ending
ending = record {
  at_end = λ previous offset. record { stopped = false; previous = previous; offset = offset };
  at_stop = λ n previous offset. record { stopped = true; previous = previous; offset = offset };
  at_record = λ previous r later. later;
}
