-- The worked captures give their lines, byte for byte, one by one over their table: every decoder answers their two readings as the soft
-- decoder does.
-- Assumes nothing.
use mathlib.Core.Path.{◌≡◌}
use mathlib.Core.List.{List, [], ◌++◌}
use Prim.Native.Nat.{ℕ}
use lib.IntN.{ℤ}
use Rattle.golay.specs.Answers.{Answer, accepted, refused}
use Rattle.reading.specs.Cases.{all_ones, all_zeros}
use Rattle.sequence.specs.declared.kinds.Follows.TheVariants.{Unnumbered, Lost, Repeat, Late}
use Rattle.texts.specs.Texts.{decimal}
use Rattle.lines.specs.Lines.{header, answer_line, stopped_line}
use Rattle.records.specs.Records.{twos_complement, confidences_of, standing}
use Rattle.records.specs.Capture.{run_in}
use Rattle.run.specs.Output.{output}
use Rattle.decoding.specs.Decoding.{Decoder}
use Rattle.decoding.proofs.Decoding.{ones_decoded, zeros_decoded}
use Rattle.capture.specs.Cases.{worked, worked_numbers, cases, AllHold}

module _ (decode : List ℤ → Answer (ℕ × ℕ)) where
  module _ (ones : decode all_ones ≡ accepted (0, 8)) where
    worked-holds : decode all_zeros ≡ refused 6 → output decode worked.capture ≡ worked.text
    unfolding twos_complement confidences_of standing decimal run_in
    worked-holds zeros = λ i. header ++ (answer_line (ones i) Unnumbered ++ (answer_line (zeros i) Unnumbered ++ stopped_line 10 196))

    numbers_hold : output decode worked_numbers.capture ≡ worked_numbers.text
    unfolding twos_complement confidences_of standing decimal run_in
    numbers_hold = λ i.
        header ++ (answer_line (ones i) (Lost 0) ++ (answer_line (ones i) (Lost 1) ++ (answer_line (ones i) Repeat ++ (answer_line (ones i) Late ++ []))))

  module _ (D : Decoder decode) where
    pub cases_hold : AllHold decode cases
    unfolding cases
    cases_hold = (worked-holds (ones_decoded decode D) (zeros_decoded decode D), (numbers_hold (ones_decoded decode D), tt))
