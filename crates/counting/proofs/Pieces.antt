-- The tally over captures, one after the other, each in any pieces: counted turn by turn it is that of all their readings.
-- Assumes nothing.
use mathlib.Core.Path.{◌≡◌, refl, ap, ◌∙◌}
use mathlib.Core.Bool.{true, false}
use mathlib.Core.List.{List, [], ◌∷◌, ◌++◌}
use Prim.Native.Nat.{ℕ, ◌-◌}
use lib.IntN.{ℤ}
use lib.ListN.{drop}
use Rattle.std.specs.Prelude.{Option}
use Rattle.golay.specs.Answers.{Answer}
use Rattle.records.specs.Capture.{run_from, ending}
use Rattle.pieces.specs.Pieces.{all_pieces, turns_from}
use Rattle.pieces.proofs.Pieces.{pieces_told}
use Rattle.pieces.proofs.Listed.{goes_on, turns_go}
use Rattle.totals.specs.Totals.{Totals}
use Rattle.tally.specs.History.{with_reading, tallied}
use Rattle.counting.specs.Reports.{readings, readings_of, all_readings}

module _ (decode : List ℤ → Answer (ℕ × ℕ)) where
  -- some readings, and then others
  pub tallied-append : (T : Totals) (front later : List (List ℤ)) → tallied decode T (front ++ later) ≡ tallied decode (tallied decode T front) later
  unfolding tallied
  tallied-append T [] later = refl
  tallied-append T (xs ∷ front) later = tallied-append (with_reading decode T xs) front later

  -- one capture, and then the others
  pub captures_counted :
      (T : Totals) (capture : List ℕ) (captures : List (List ℕ))
      → tallied decode T (all_readings (capture ∷ captures)) ≡ tallied decode (tallied decode T (readings_of capture)) (all_readings captures)
  unfolding all_readings
  captures_counted T capture captures = tallied-append T (readings_of capture) (all_readings captures)

  -- a turn: the readings of its bytes, and where it did not stop the turns after it, from where it ended
  pub turn-counted :
      (T : Totals) (previous : Option ℕ) (offset : ℕ) (held piece : List ℕ) (pieces : List (List ℕ))
      → let bytes = held ++ piece in
      tallied decode T (turns_from readings previous offset held (piece ∷ pieces))
      ≡ tallied decode (tallied decode T (run_from readings false previous offset bytes))
      (goes_on (λ number next. turns_from readings number next (drop (next - offset) bytes) pieces) (run_from ending false previous offset bytes))
  turn-counted T previous offset held piece pieces =
      let bytes = held ++ piece in
      ap (tallied decode T) (turns_go (λ number r. r.reading ∷ []) (λ n number next. []) previous offset held piece pieces)
      ∙ tallied-append T (run_from readings false previous offset bytes)
      (goes_on (λ number next. turns_from readings number next (drop (next - offset) bytes) pieces) (run_from ending false previous offset bytes))

  pub pieces_counted :
      (T : Totals) (previous : Option ℕ) (offset : ℕ) (held : List ℕ) (pieces : List (List ℕ))
      → tallied decode T (turns_from readings previous offset held pieces)
      ≡ tallied decode T (run_from readings true previous offset (held ++ all_pieces pieces))
  pieces_counted T previous offset held pieces = ap (tallied decode T) (pieces_told readings previous offset held pieces)
