-- The turns over any pieces of a capture give the lines of the capture in one; and what a turn writes, and how it ended, is what they are made of.
-- Assumes nothing.
use mathlib.Core.Path.{◌≡◌}
use mathlib.Core.Bool.{true, false}
use mathlib.Core.List.{List, ◌∷◌, ◌++◌}
use Prim.Native.Nat.{ℕ, ◌-◌}
use lib.IntN.{ℤ}
use lib.ListN.{drop}
use Rattle.std.specs.Prelude.{Option}
use Rattle.golay.specs.Answers.{Answer}
use Rattle.sequence.specs.Sequence.{follows_from}
use Rattle.lines.specs.Lines.{stopped_line, answer_line}
use Rattle.records.specs.Capture.{run_from, ending}
use Rattle.pieces.specs.Pieces.{all_pieces, turns_from}
use Rattle.pieces.proofs.Pieces.{pieces_told}
use Rattle.pieces.proofs.Listed as listed
use Rattle.pieces.proofs.Listed.{goes_on}
use Rattle.run.specs.Output.{lines, lines_from}

module _ (decode : List ℤ → Answer (ℕ × ℕ)) where
  -- a turn: its text, and where it did not stop the turns after it, from where it ended
  pub turns_go :
      (previous : Option ℕ) (offset : ℕ) (held piece : List ℕ) (pieces : List (List ℕ))
      → let bytes = held ++ piece in
      turns_from (lines decode) previous offset held (piece ∷ pieces)
      ≡ lines_from decode false previous offset bytes
      ++ goes_on (λ number next. turns_from (lines decode) number next (drop (next - offset) bytes) pieces) (run_from ending false previous offset bytes)
  turns_go =
      listed.turns_go (λ previous r. answer_line (decode r.reading) (follows_from previous r.number)) (λ n previous offset. stopped_line n offset)

  pub turns_text :
      (previous : Option ℕ) (offset : ℕ) (held : List ℕ) (pieces : List (List ℕ))
      → turns_from (lines decode) previous offset held pieces ≡ lines_from decode true previous offset (held ++ all_pieces pieces)
  turns_text = pieces_told (lines decode)
