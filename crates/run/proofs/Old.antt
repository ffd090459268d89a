-- A capture without marks of new records gives what it would give if there were only old ones.
-- Assumes nothing.
use mathlib.Core.Path.{◌≡◌, refl, ap, ◌∙◌}
use mathlib.Core.Bool.{Bool, true, false, cond}
use mathlib.Core.List.{List, [], ◌∷◌, ◌++◌}
use Prim.Native.Nat.{ℕ, zero, suc, ◌+◌, ◌*◌}
use native.Mathlib.Omega.{arith}
use lib.Dec.{leb}
use lib.IntN.{ℤ}
use lib.ListN.{length, get_or, drop}
use lib.Seq.{get_or-drop}
use Rattle.std.specs.Prelude.{None}
use Rattle.code.specs.Code.{positions}
use Rattle.golay.specs.Answers.{Answer, accepted, refused}
use Rattle.sequence.specs.declared.kinds.Follows.TheVariants.{Unnumbered}
use Rattle.lines.specs.Lines.{header, stopped_line, answer_line}
use Rattle.sequence.specs.Sequence.{previous_after}
use Rattle.records.specs.Records.{is_old_mark, is_new_mark, Record, old_length, new_length, record_length, confidences_of, standing, in_piece}
use Rattle.records.specs.Capture.{run_at, run_in}
use Rattle.records.proofs.Standing.{tested}
use Rattle.run.specs.Output.{lines, output}
use Rattle.run.specs.Old.{old_line, old_in, old_output, NoNewMark}

module _ (decode : List ℤ → Answer (ℕ × ℕ)) where
  -- the line of an old record
  same_line : (a : Answer (ℕ × ℕ)) → answer_line a Unnumbered ≡ old_line a
  same_line (accepted x) = refl
  same_line (refused n) = refl

  -- what follows an old record has no new mark either
  later_marks : (left : List ℕ) → NoNewMark left → NoNewMark (drop 98 left)
  later_marks left h n =
      let e : 98 + n * 98 ≡ suc n * 98 = omega arith in
      let f : 98 + (n * 98 + 1) ≡ suc n * 98 + 1 = omega arith in
      (λ i.
      is_new_mark
      ((get_or-drop 98 left (n * 98) 0 ∙ ap (λ (k : ℕ). get_or left k 0) e) i)
      ((get_or-drop 98 left (n * 98 + 1) 0 ∙ ap (λ (k : ℕ). get_or left k 0) f) i))
      ∙ h (suc n)

  same_lines : (fuel offset : ℕ) (left : List ℕ) → NoNewMark left → run_in (lines decode) true fuel None offset left ≡ old_in decode fuel offset left
  unfolding run_in old_in standing
  same_lines zero offset left h = refl
  same_lines (suc fuel) offset [] h = refl
  same_lines (suc fuel) offset (a ∷ []) h = refl
  same_lines (suc fuel) offset (a ∷ b ∷ rest) h =
      cases (is_old_mark a b) (leb old_length (2 + length rest)) (is_new_mark a b) (leb new_length (2 + length rest)) (h 0)
      (same_lines fuel (offset + 98) (drop 98 (a ∷ b ∷ rest)) (later_marks (a ∷ b ∷ rest) h))
    where
      later : Record → List ℕ
      later r = run_in (lines decode) true fuel (previous_after None r.number) (offset + record_length r) (drop (record_length r) (a ∷ b ∷ rest))

      cases : (o f n g : Bool)
          → n ≡ false
          → run_in (lines decode) true fuel None (offset + 98) (drop 98 (a ∷ b ∷ rest)) ≡ old_in decode fuel (offset + 98) (drop 98 (a ∷ b ∷ rest))
          → run_at (lines decode) true None offset later (in_piece true (tested o f n g rest))
          ≡ cond o (cond f (old_line (decode (confidences_of positions rest)) ++ old_in decode fuel (offset + 98) (drop 96 rest)) (stopped_line 10 offset))
          (stopped_line 9 offset)
      cases true true n g e tail = λ i. same_line (decode (confidences_of positions rest)) i ++ tail i
      cases true false n g e tail = refl
      cases false f true g e tail = let z : ◌≡◌ {A = ℕ} 0 1 = cc in absurd (omega arith)
      cases false f false g e tail = refl

  pub old-output : (bytes : List ℕ) → NoNewMark bytes → output decode bytes ≡ old_output decode bytes
  old-output bytes h = ap (λ (l : List ℕ). header ++ l) (same_lines (length bytes) 0 bytes h)
