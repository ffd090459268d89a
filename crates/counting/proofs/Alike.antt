-- Rule 18.10: a capture of whole records has their readings, whatever their kinds and their numbers; so the report counts both kinds alike.
-- Assumes nothing.
use mathlib.Core.Path.{◌≡◌, refl, sym, ap, ◌∙◌}
use mathlib.Core.Bool.{true, false}
use mathlib.Core.List.{List, [], ◌∷◌, ◌++◌, append_assoc}
use Prim.Native.Nat.{ℕ, ◌+◌, ◌*◌}
use native.Mathlib.Omega.{arith}
use lib.IntN.{ℤ}
use lib.ListN.{length, drop}
use lib.Seq.{drop_at}
use borrow.Author.Tests.{le-leb}
use Rattle.std.specs.Prelude.{Option, None, Some}
use Rattle.code.specs.Code.{positions}
use Rattle.golay.specs.Bytes.{word_of}
use Rattle.golay.specs.Answers.{Answer}
use Rattle.sequence.specs.Sequence.{previous_after}
use Rattle.records.specs.Records.{Record, old_length, new_length, length_with, record_length, confidences_of, whole, standing, in_piece}
use Rattle.records.proofs.Standing.{whole-front}
use Rattle.records.proofs.Running.{run-whole}
use Rattle.totals.specs.Totals.{empty}
use Rattle.tally.specs.History.{tallied}
use Rattle.sheet.specs.Sheet.{sheet}
use Rattle.counting.specs.Reports.{readings, readings_of, all_readings, sheet_of}
use Rattle.counting.specs.Alike.{Kind, old, new, record_bytes, capture_of, Whole, readings_in, Alike}
use Rattle.counting.proofs.Unnumbered.{readings_anywhere}

-- the record that stands at the beginning of its bytes
abbrev number_in : Kind → Option ℕ
number_in old = None
number_in (new a b) = Some (word_of (a ∷ b ∷ []))

abbrev record_in : Kind → List ℕ → Record
record_in kind body = record { number = number_in kind; reading = confidences_of positions body }

stands : (kind : Kind) (body : List ℕ) → length body ≡ positions * 4 → in_piece false (standing (record_bytes kind body)) ≡ whole (record_in kind body)
unfolding standing
stands old body l = simp (le-leb old_length (2 + length body) (omega (arith, l)))
stands (new a b) body l = simp (le-leb new_length (2 + length (a ∷ b ∷ body)) (omega (arith, l)))

takes : (kind : Kind) (body : List ℕ) → length body ≡ positions * 4 → length (record_bytes kind body) ≡ length_with (number_in kind)
takes old body l = omega (arith, l)
takes (new a b) body l = omega (arith, l)

pub records_read : (rs : List (Kind × List ℕ)) → Whole rs → (rest : List ℕ) → readings_of (capture_of rs ++ rest) ≡ readings_in rs ++ readings_of rest
unfolding capture_of Whole readings_in
records_read [] w rest = refl
records_read (r ∷ rs) w rest =
    let (kind, body) = r in
    let front = record_bytes kind body in
    let later = capture_of rs ++ rest in
    let held = record_in kind body in
    let there = whole-front front later (stands kind body w.0) in
    ap readings_of (append_assoc front (capture_of rs) rest)
    ∙ run-whole readings true None 0 (front ++ later) there
    ∙ ap (λ (l : List (List ℤ)). held.reading ∷ l)
    (readings_anywhere true (previous_after None held.number) None (0 + record_length held) 0 (drop (record_length held) (front ++ later))
    ∙ ap readings_of (drop_at front later (record_length held) (takes kind body w.0))
    ∙ records_read rs w.1 rest)

-- of two captures of such records, both are whole where one is, and have the same readings
alike_whole : (rs ss : List (Kind × List ℕ)) → Alike rs ss → Whole rs → Whole ss
unfolding Alike Whole
alike_whole [] [] a w = w
alike_whole (r ∷ rs) (s ∷ ss) a w = (ap length (sym a.0) ∙ w.0, alike_whole rs ss a.1 w.1)
alike_whole [] (s ∷ ss) a w = absurd a
alike_whole (r ∷ rs) [] a w = absurd a

alike_readings : (rs ss : List (Kind × List ℕ)) → Alike rs ss → readings_in rs ≡ readings_in ss
unfolding Alike readings_in
alike_readings [] [] a = refl
alike_readings (r ∷ rs) (s ∷ ss) a = λ i. confidences_of positions (a.0 i) ∷ alike_readings rs ss a.1 i
alike_readings [] (s ∷ ss) a = absurd a
alike_readings (r ∷ rs) [] a = absurd a

pub alike_read :
    (rs ss : List (Kind × List ℕ))
    → Whole rs
    → Alike rs ss
    → (rest : List ℕ)
    → readings_of (capture_of rs ++ rest) ≡ readings_of (capture_of ss ++ rest)
alike_read rs ss w a rest =
    records_read rs w rest
    ∙ ap (λ (l : List (List ℤ)). l ++ readings_of rest) (alike_readings rs ss a)
    ∙ sym (records_read ss (alike_whole rs ss a w) rest)

-- the report goes by the readings alone: captures with the same readings, among others, give one sheet
same-all : (front : List (List ℕ)) (c d : List ℕ) (back : List (List ℕ)) → readings_of c ≡ readings_of d → all_readings (front ++ (c ∷ back)) ≡ all_readings (front ++ (d ∷ back))
unfolding all_readings
same-all [] c d back e = ap (λ (l : List (List ℤ)). l ++ all_readings back) e
same-all (f ∷ front) c d back e = ap (λ (l : List (List ℤ)). readings_of f ++ l) (same-all front c d back e)

module _ (decode : List ℤ → Answer (ℕ × ℕ)) where
  pub same-sheet :
      (front : List (List ℕ)) (c d : List ℕ) (back : List (List ℕ))
      → readings_of c ≡ readings_of d
      → sheet_of decode (front ++ (c ∷ back)) ≡ sheet_of decode (front ++ (d ∷ back))
  same-sheet front c d back e = ap (λ (xss : List (List ℤ)). sheet (tallied decode empty xss)) (same-all front c d back e)

  pub alike_sheet :
      (rs ss : List (Kind × List ℕ))
      → Whole rs
      → Alike rs ss
      → (rest : List ℕ) (front back : List (List ℕ))
      → sheet_of decode (front ++ ((capture_of rs ++ rest) ∷ back)) ≡ sheet_of decode (front ++ ((capture_of ss ++ rest) ∷ back))
  alike_sheet rs ss w a rest front back = same-sheet front (capture_of rs ++ rest) (capture_of ss ++ rest) back (alike_read rs ss w a rest)
