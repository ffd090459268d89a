-- The rule of the column figure, taken apart: what it answers where its tests are known, and what an answer tells of them.
use mathlib.Core.Path.{◌≡◌, sym}
use mathlib.Core.Bool.{Bool, true, false}
use mathlib.Core.List.{List}
use Prim.Native.Nat.{ℕ, ◌≤◌, ◌<◌}
use native.Mathlib.Omega.{arith}
use lib.IntN.{ℤ}
use lib.ListN.{length}
use borrow.Author.Tests.{le-leb, lt-leb, eq-eqb, ne_eqb}
use Rattle.code.specs.Code.{positions}
use Rattle.golay.specs.declared.kinds.Refusal.{Refusal}
use Rattle.golay.specs.declared.kinds.Refusal.TheVariants.{WrongLength, MostNegative, ClassAbove, NoColumn}
use Rattle.golay.specs.Answers.{Answer, accepted, refused, refuse}
use Rattle.golay.specs.Calls.{wrong_length}
use Rattle.reading.specs.Checks.{most_negative}
use Rattle.reading.specs.Calls.{check_rule}
use Rattle.reading.proofs.Calls.{refused_begins, passed}
use Rattle.classes.specs.Classes.{classes, class_above, column_figure}
use Rattle.favours.specs.Calls.{no_column, column_figure_rule}

module _ (xs : List ℤ) (k j : ℕ) where
  pub column-length : (length xs ≡ 24 → ⊥) → column_figure_rule xs k j ≡ refused 1
  unfolding column_figure_rule
  column-length l = simp (ne_eqb (length xs) 24 l)

  module _ (l : length xs ≡ 24) where
    pub column-negative : most_negative xs ≡ true → column_figure_rule xs k j ≡ refused 2
    unfolding column_figure_rule
    column-negative e = simp (eq-eqb (length xs) 24 l, e)

    module _ (e : most_negative xs ≡ false) where
      pub column_class : classes ≤ k → column_figure_rule xs k j ≡ refused 11
      unfolding column_figure_rule
      column_class h = simp (eq-eqb (length xs) 24 l, e, le-leb classes k h)

      module _ (h : k < classes) where
        pub column_before : j < 1 → column_figure_rule xs k j ≡ refused 18
        unfolding column_figure_rule
        column_before b = simp (eq-eqb (length xs) 24 l, e, lt-leb classes k h, lt-leb 1 j b)

        pub column_after : 1 ≤ j → 6 < j → column_figure_rule xs k j ≡ refused 18
        unfolding column_figure_rule
        column_after a b = simp (eq-eqb (length xs) 24 l, e, lt-leb classes k h, le-leb 1 j a, lt-leb j 6 b)

        pub column-within : 1 ≤ j → j ≤ 6 → column_figure_rule xs k j ≡ accepted (column_figure xs k j)
        unfolding column_figure_rule
        column-within a b = simp (eq-eqb (length xs) 24 l, e, lt-leb classes k h, le-leb 1 j a, le-leb j 6 b)

  -- the same by the check's answer, as the call's own answers ask for them
  pub column-check : {n : ℕ} → refused n ≡ check_rule xs → refused n ≡ column_figure_rule xs k j
  unfolding column_figure_rule
  column-check e = refused_begins xs e (refuse ClassAbove (class_above k) (refuse NoColumn (no_column j) (accepted (column_figure xs k j))))

  module _ (p : accepted (tt {0}) ≡ check_rule xs) where
    pub class_checked : classes ≤ k → refused 11 ≡ column_figure_rule xs k j
    class_checked h = let (l, e) = passed xs p in sym (column_class l e h)

    module _ (h : k < classes) where
      pub before_checked : j < 1 → refused 18 ≡ column_figure_rule xs k j
      before_checked b = let (l, e) = passed xs p in sym (column_before l e h b)

      pub after_checked : 6 < j → refused 18 ≡ column_figure_rule xs k j
      after_checked b = let (l, e) = passed xs p in sym (column_after l e h (omega arith) b)

      pub within_checked : 1 ≤ j → j ≤ 6 → accepted (column_figure xs k j) ≡ column_figure_rule xs k j
      within_checked a b = let (l, e) = passed xs p in sym (column-within l e h a b)

-- ---- an answer is the figure

let_by : {A : Type 0} {x : A} (next : Answer A) (r : Refusal) (test : Bool) → accepted x ≡ refuse r test next → accepted x ≡ next
let_by next r true e = cc
let_by next r false e = e

value_of : {A : Type 0} {x y : A} → accepted x ≡ accepted y → x ≡ y
value_of e = cc

pub answered-figure : (xs : List ℤ) (k j : ℕ) {f : ℤ} → accepted f ≡ column_figure_rule xs k j → f ≡ column_figure xs k j
unfolding column_figure_rule
answered-figure xs k j e =
    value_of
    (let_by _ NoColumn (no_column j)
    (let_by _ ClassAbove (class_above k) (let_by _ MostNegative (most_negative xs) (let_by _ WrongLength (wrong_length positions xs) e))))
