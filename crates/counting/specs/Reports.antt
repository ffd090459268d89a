-- Rules 18.5 and 18.6: the report on captures and its sheet, as functions of their bytes.
use Rattle.std.specs.Prelude.{true, List, [], ◌∷◌, ◌++◌, ℕ, ℤ, None}
use Rattle.golay.specs.Answers.{Answer}
use Rattle.records.specs.Capture.{Telling, listed, run_from}
use Rattle.totals.specs.Totals.{Totals, empty}
use Rattle.tally.specs.History.{tallied}
use Rattle.sheet.specs.Sheet as sheets

-- Rule 18.5: what is told of a capture: the reading of each record, of either kind, and of a stop nothing
abbrev pub readings : Telling (List (List ℤ))
readings = listed (λ previous r. r.reading ∷ []) (λ n previous offset. [])

-- the readings of a capture, up to its end or where it stops
abbrev pub readings_of : List ℕ → List (List ℤ)
readings_of capture = run_from readings true None 0 capture

-- those of captures in their order
unfoldable pub all_readings : List (List ℕ) → List (List ℤ)
all_readings [] = []
all_readings (capture ∷ captures) = readings_of capture ++ all_readings captures

module _ (decode : List ℤ → Answer (ℕ × ℕ)) where
  -- Rule 18.5: one tally over all of them, from the empty one
  abbrev pub report : List (List ℕ) → Totals
  report captures = tallied decode empty (all_readings captures)

  -- Rule 18.6: its sheet
  abbrev pub sheet_of : List (List ℕ) → List ℕ
  sheet_of captures = sheets.sheet (report captures)

-- Rules 12.4 and 18.8: how a run ended: the number that it stopped with, or 0, and the offset there
pub record Came : Type 0 where
  pub stop : ℕ
  pub offset : ℕ

abbrev pub came : Telling Came
came = record {
  at_end = λ previous offset. record { stop = 0; offset = offset };
  at_stop = λ n previous offset. record { stop = n; offset = offset };
  at_record = λ previous r later. later;
}
