-- Rule 13.10: all that would be printed if there were only old records: rules 12.1 to 12.4 and 13.1 to 13.5 without numbers.
use Rattle.std.specs.Prelude.{◌≡◌, cond, false, List, [], ◌∷◌, ◌++◌, ℕ, zero, suc, ◌+◌, ◌*◌, leb, ℤ, length, get_or, drop}
use Rattle.code.specs.Code.{positions}
use Rattle.golay.specs.Answers.{Answer, accepted, refused}
use Rattle.texts.specs.Ascii.{ascii}
use Rattle.texts.specs.Texts.{line_feed, line_of, line_of_two}
use Rattle.lines.specs.Lines.{header, stopped_line}
use Rattle.records.specs.Records.{is_old_mark, is_new_mark, confidences_of}

-- Rules 13.3 and 13.4
abbrev pub old_line : Answer (ℕ × ℕ) → List ℕ
old_line (accepted x) = line_of_two (ascii "") x.0 (ascii " ") x.1 line_feed
old_line (refused n) = line_of (ascii "refused ") n line_feed

module _ (decode : List ℤ → Answer (ℕ × ℕ)) where
  -- Rules 12.3 and 12.4: from a record's start on, at an offset; at most fuel records
  unfoldable pub old_in : ℕ → ℕ → List ℕ → List ℕ
  old_in zero offset left = []
  old_in (suc fuel) offset [] = []
  old_in (suc fuel) offset (a ∷ []) = stopped_line 10 offset
  old_in (suc fuel) offset (a ∷ b ∷ rest) =
      cond (is_old_mark a b)
      (cond (leb 98 (2 + length rest)) (old_line (decode (confidences_of positions rest)) ++ old_in fuel (offset + 98) (drop 96 rest)) (stopped_line 10 offset))
      (stopped_line 9 offset)

  -- Rule 13.1
  abbrev pub old_output : List ℕ → List ℕ
  old_output bytes = header ++ old_in (length bytes) 0 bytes

-- Rule 13.10: no mark of a new record stands at a multiple of 98
abbrev pub NoNewMark : List ℕ → Type 0
NoNewMark bytes = (n : ℕ) → is_new_mark (get_or bytes (n * 98) 0) (get_or bytes (n * 98 + 1) 0) ≡ false
