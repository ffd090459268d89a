-- Two answers that the promise of `column_figure` allows for one input are equal.
-- Assumes nothing.
use mathlib.Core.Path.{◌≡◌, refl}
use mathlib.Core.List.{List}
use Prim.Native.Nat.{ℕ}
use lib.IntN.{ℤ}
use Rattle.std.specs.Prelude.{Result}
use Rattle.golay.specs.declared.kinds.Refusal.{Refusal}
use Rattle.golay.proofs.Decided.{answer-once}
use Rattle.favours.specs.Answers.{column_figure_answer}
use Rattle.favours.specs.Calls.{column_figure_rule}

pub column_figure-decided : (xs : List ℤ) (k j : ℕ) (x y : Result ℤ Refusal)
    → column_figure_answer x ≡ column_figure_rule xs k j → column_figure_answer y ≡ column_figure_rule xs k j → x ≡ y
column_figure-decided xs k j = answer-once (λ value. value) (λ value. value) (λ value. refl)
