-- Rules 12.9 and 18.5 over a piece of a capture: what counting its records leaves. Neither goes by a previous number or an offset, so both hold
-- for any that the piece begins with.
use Rattle.std.specs.Prelude.{◌≡◌, Bool, false, List, ℕ, ◌+◌, ◌≤◌, ℤ, length, take, Option, None, Some}
use Rattle.golay.specs.Answers.{Answer}
use Rattle.golay.specs.Refusals.{number}
use Rattle.golay.specs.declared.kinds.Refusal.{Refusal}
use Rattle.decoding.specs.Decoding.{Decoder}
use Rattle.records.specs.Capture.{run_from}
use Rattle.pieces.specs.Pieces.{Keeps}
use Rattle.totals.specs.Totals.{Totals}
use Rattle.tally.specs.History.{tallied}
use Rattle.counting.specs.Reports.{readings, came}

-- Rule 12.4: the number that a run stopped with, or 0 where it did not
abbrev pub stop_number : Option Refusal → ℕ
stop_number None = 0
stop_number (Some reason) = number reason

-- of the last bytes of the input, or of others: the readings of all records counted, for every decoder, and how the run ended
pub record CountsRun (last : Bool) (bytes : List ℕ) (before after : Totals) (stop through : ℕ) : Type 0 where
  pub counted : (decode : List ℤ → Answer (ℕ × ℕ)) → Decoder decode → (previous : Option ℕ) (offset : ℕ)
      → after ≡ tallied decode before (run_from readings last previous offset bytes)
  pub ended : (previous : Option ℕ) (offset : ℕ) → record { stop = stop; offset = offset + through } ≡ run_from came last previous offset bytes

-- one turn over the first bytes that are held, which more may follow: the run over them, and what it did not come through kept; where so many
-- are not held nothing is counted or moved
pub record CountsTurn (count : ℕ) (held kept : List ℕ) (before after : Totals) (stop through left : ℕ) : Type 0 where
  pub there : count ≤ length held → CountsRun false (take count held) before after stop through × Keeps through count held kept left
  pub missing : (count ≤ length held → ⊥) → (after ≡ before) × (kept ≡ held) × (stop ≡ 0) × (through ≡ 0) × (left ≡ count)
