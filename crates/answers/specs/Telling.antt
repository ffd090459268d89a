-- Rules 13.3, 13.4 and 13.8: what a line tells of a record, which is the soft decoder's answer by message and reserve.
use Rattle.std.specs.Prelude.{List, ℕ, ◌≤◌, ℤ, length}
use Rattle.golay.specs.Answers.{Answer}
use Rattle.sequence.specs.declared.kinds.Follows.{Follows}
use Rattle.lines.specs.Lines.{answer_line, longest}
use Rattle.texts.specs.Buffers.{Writes}
use Rattle.decoding.specs.Decoding.{Decoder}

-- Rules 13.3, 13.4 and 13.8: the line of every decoder's answer to the reading of a record, by how the record follows, written at a place; and
-- it is no longer than a line is
pub record Tells (xs : List ℤ) (follows : Follows) (before : List ℕ) (at : ℕ) (after : List ℕ) (next : ℕ) : Type 0 where
  pub line : (decode : List ℤ → Answer (ℕ × ℕ)) → Decoder decode → Writes (answer_line (decode xs) follows) before at after next
  pub short : (decode : List ℤ → Answer (ℕ × ℕ)) → Decoder decode → length (answer_line (decode xs) follows) ≤ longest
