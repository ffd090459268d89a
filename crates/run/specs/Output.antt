-- Rules 13.1 and 13.8: all that a capture's run prints, as a function of its bytes, over any decoder: what a reading is answered by.
use Rattle.std.specs.Prelude.{Bool, true, List, ◌++◌, ℕ, ℤ, Option, None}
use Rattle.golay.specs.Answers.{Answer}
use Rattle.sequence.specs.Sequence.{follows_from}
use Rattle.lines.specs.Lines.{header, stopped_line, answer_line}
use Rattle.records.specs.Capture.{Telling, listed, run_from}

module _ (decode : List ℤ → Answer (ℕ × ℕ)) where
  -- Rule 13.1: one line for each record, and a line where the run stopped
  abbrev pub lines : Telling (List ℕ)
  lines =
      listed (λ previous r. answer_line (decode r.reading) (follows_from previous r.number)) (λ n previous offset. stopped_line n offset)

  -- Rule 13.1: the lines from a record's start on, after a previous number and at an offset; of the last bytes of the input, or of others
  abbrev pub lines_from : Bool → Option ℕ → ℕ → List ℕ → List ℕ
  lines_from = run_from lines

  -- Rule 13.1: the header, and the run's lines from offset 0 on (12.2), without a previous number (12.7)
  abbrev pub output : List ℕ → List ℕ
  output bytes = header ++ lines_from true None 0 bytes
