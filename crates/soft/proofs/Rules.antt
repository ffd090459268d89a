-- The rules of the soft calls, taken apart: what they allow where their tests are known.
use mathlib.Core.Path.{◌≡◌}
use mathlib.Core.Bool.{true, false}
use mathlib.Core.List.{List}
use Prim.Native.Nat.{ℕ, ◌≤◌, ◌<◌}
use lib.IntN.{ℤ}
use lib.ListN.{length}
use borrow.Author.Tests.{le-leb, lt-leb, eq-eqb, ne_eqb}
use Rattle.golay.specs.declared.kinds.Refusal.TheVariants.{ClassAbove}
use Rattle.golay.specs.Answers.{Answer, refused, Refuse}
use Rattle.classes.specs.Classes.{classes, class_above}
use Rattle.soft.specs.declared.kinds.Soft.{Soft}
use Rattle.reading.specs.Checks.{most_negative}
use Rattle.reading.specs.Calls.{check_rule}
use Rattle.reading.proofs.Calls.{refused_begins_one}
use Rattle.soft.specs.Calls.{Decides, SoftRule, HasFigure, ClassFigureRule}

module _ (xs : List ℤ) where
  pub soft-check : {n : ℕ} → refused n ≡ check_rule xs → SoftRule xs (refused n)
  unfolding SoftRule
  soft-check e = refused_begins_one xs e (Decides xs)

  pub soft-length : (length xs ≡ 24 → ⊥) → SoftRule xs (refused 1)
  unfolding SoftRule
  soft-length l = simp (ne_eqb (length xs) 24 l)

  pub soft-negative : length xs ≡ 24 → most_negative xs ≡ true → SoftRule xs (refused 2)
  unfolding SoftRule
  soft-negative l e = simp (eq-eqb (length xs) 24 l, e)

  module _ (l : length xs ≡ 24) (e : most_negative xs ≡ false) where
    pub soft_decides : {a : Answer Soft} → Decides xs a → SoftRule xs a
    unfolding SoftRule
    soft_decides d = simp (eq-eqb (length xs) 24 l, e) d

    -- and the other way round
    pub decides_soft : {a : Answer Soft} → SoftRule xs a → Decides xs a
    unfolding SoftRule
    decides_soft d = simp (eq-eqb (length xs) 24 l, e) at d

  module _ (k : ℕ) where
    pub figure-check : {n : ℕ} → refused n ≡ check_rule xs → ClassFigureRule xs k (refused n)
    unfolding ClassFigureRule
    figure-check e = refused_begins_one xs e (Refuse ClassAbove (class_above k) (HasFigure xs k))

    pub figure-length : (length xs ≡ 24 → ⊥) → ClassFigureRule xs k (refused 1)
    unfolding ClassFigureRule
    figure-length l = simp (ne_eqb (length xs) 24 l)

    pub figure-negative : length xs ≡ 24 → most_negative xs ≡ true → ClassFigureRule xs k (refused 2)
    unfolding ClassFigureRule
    figure-negative l e = simp (eq-eqb (length xs) 24 l, e)

    module _ (l : length xs ≡ 24) (e : most_negative xs ≡ false) where
      pub figure_above : classes ≤ k → ClassFigureRule xs k (refused 11)
      unfolding ClassFigureRule
      figure_above h = simp (eq-eqb (length xs) 24 l, e, le-leb classes k h)

      pub figure-within : k < classes → {a : Answer ℤ} → HasFigure xs k a → ClassFigureRule xs k a
      unfolding ClassFigureRule
      figure-within h d = simp (eq-eqb (length xs) 24 l, e, lt-leb classes k h) d
