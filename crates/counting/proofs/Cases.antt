-- The worked capture gives the worked sheet, byte for byte, for every decoder.
-- Assumes nothing.
use mathlib.Core.Path.{◌≡◌, refl, ap, ◌∙◌}
use mathlib.Core.List.{List, [], ◌∷◌, ◌++◌}
use Prim.Native.Nat.{ℕ, zero, suc}
use native.Mathlib.Omega.{arith}
use lib.IntN.{ℤ}
use lib.ListN.{length, replicate, length-replicate}
use Rattle.code.specs.Code.{messages}
use Rattle.golay.specs.Answers.{Answer, accepted, refused}
use Rattle.reading.specs.Cases.{all_ones, all_zeros}
use Rattle.texts.specs.Texts.{decimal}
use Rattle.decoding.specs.Decoding.{Decoder}
use Rattle.decoding.proofs.Decoding.{ones_decoded, zeros_decoded}
use Rattle.hands.specs.Hands.{output, itself}
use Rattle.records.specs.Records.{twos_complement, confidences_of, standing}
use Rattle.records.specs.Capture.{run_in}
use Rattle.records.specs.Worked.{worked_capture}
use Rattle.totals.specs.Totals.{Totals, totals, empty}
use Rattle.tally.specs.Counts.{count_rule}
use Rattle.tally.specs.History.{tallied}
use Rattle.tally.proofs.Rules.{table_right}
use Rattle.sheet.specs.Sheet.{count_lines, message_lines, reserve_lines, sheet}
use Rattle.counting.specs.Reports.{all_readings, sheet_of}
use Rattle.counting.specs.Cases.{worked_sheet}

-- the readings of the worked capture
worked-readings : all_readings (worked_capture ∷ []) ≡ all_ones ∷ all_zeros ∷ []
unfolding all_readings twos_complement confidences_of standing run_in
worked-readings = refl

-- messages without a count have no lines
no_lines : (m n : ℕ) → message_lines m (replicate n 0) ≡ []
unfolding message_lines
no_lines m zero = refl
no_lines m (suc n) = no_lines (suc m) n

-- the table with message 0 counted, and the totals after each reading
abbrev table : List ℕ
table = 1 ∷ replicate 4095 0

abbrev first : Totals
first = totals (record { read = 1; accepted = 1; refused_2 = 0; refused_6 = 0; smallest = 8; total = 8 }) table

abbrev second : Totals
second = totals (record { read = 2; accepted = 1; refused_2 = 0; refused_6 = 1; smallest = 8; total = 8 }) table

first_counted : output itself (count_rule empty (accepted (0, 8))) empty ≡ first
first_counted = ap (λ (a : Answer Totals). output itself a empty) (table_right empty (accepted (0, 8)) (length-replicate {A = ℕ} messages 0))

second-counted : output itself (count_rule first (refused 6)) first ≡ second
second-counted =
    let l : length table ≡ messages = omega (arith, length-replicate {A = ℕ} 4095 0) in
    ap (λ (a : Answer Totals). output itself a first) (table_right first (refused 6) l)

second-sheet : sheet second ≡ worked_sheet
unfolding message_lines decimal
second-sheet = ap (λ (l : List ℕ). count_lines second.tally ++ (message_lines 0 (1 ∷ []) ++ l) ++ reserve_lines second.tally) (no_lines 1 4095)

module _ (decode : List ℤ → Answer (ℕ × ℕ)) (D : Decoder decode) where
  both-counted : tallied decode empty (all_ones ∷ all_zeros ∷ []) ≡ second
  unfolding tallied
  both-counted =
      ap (λ (a : Answer (ℕ × ℕ)). tallied decode (output itself (count_rule empty a) empty) (all_zeros ∷ [])) (ones_decoded decode D)
      ∙ ap (λ (T : Totals). tallied decode T (all_zeros ∷ [])) first_counted
      ∙ ap (λ (a : Answer (ℕ × ℕ)). output itself (count_rule first a) first) (zeros_decoded decode D)
      ∙ second-counted

  pub worked-counted : sheet_of decode (worked_capture ∷ []) ≡ worked_sheet
  worked-counted = ap (λ (xss : List (List ℤ)). sheet (tallied decode empty xss)) worked-readings ∙ ap sheet both-counted ∙ second-sheet
