-- The way of source document 001 (8.4, 8.5), of the answers of two calls: what `class_figure` answers is what the six answers of `column_figure`
-- come to.
use mathlib.Core.Path.{◌≡◌, ap, ◌∙◌}
use mathlib.Core.Bool.{Bool}
use mathlib.Core.List.{List, [], ◌∷◌}
use Prim.Native.Nat.{ℕ, ◌≤◌, ◌<◌}
use lib.Dec.{eqb, lit≤}
use lib.IntN.{ℤ}
use Rattle.contest.specs.Figures.{charged, Favoured}
use Rattle.contest.proofs.Figures.{reached_either}
use Rattle.golay.specs.Answers.{Answer, accepted}
use Rattle.classes.specs.Classes.{classes, parity_of, class_sums, reached_of, reached_figure}
use Rattle.classes.proofs.Favours.{sums_figures}
use Rattle.favours.specs.Calls.{column_figure_rule}
use Rattle.favours.proofs.Rules.{answered-figure}
use Rattle.soft.specs.Calls.{ClassFigureRule}
use Rattle.soft.proofs.Demands.{Valid, figure-reached}

module _ {xs : List ℤ} (X : Valid xs) (k : ℕ) (known : k < classes) (f : ℕ → ℤ)
    (answered : (j : ℕ) → 1 ≤ j → j ≤ 6 → accepted (f j) ≡ column_figure_rule xs k j) where
  sums_are : class_sums xs k ≡ f 6 ∷ f 5 ∷ f 4 ∷ f 3 ∷ f 2 ∷ f 1 ∷ []
  sums_are =
      let is : (j : ℕ) → 1 ≤ j → j ≤ 6 → f j ≡ _ = λ j a b. answered-figure xs k j (answered j a b) in
      cc (
        sums_figures xs k,
        is 1 (lit≤ tt) (lit≤ tt),
        is 2 (lit≤ tt) (lit≤ tt),
        is 3 (lit≤ tt) (lit≤ tt),
        is 4 (lit≤ tt) (lit≤ tt),
        is 5 (lit≤ tt) (lit≤ tt),
        is 6 (lit≤ tt) (lit≤ tt),
      )

  -- the sizes added, less twice the smallest where the favoured top bits have not the class's parity; of a zero, either bit is favoured
  pub class_of_columns : (bits : List Bool) → Favoured (f 6 ∷ f 5 ∷ f 4 ∷ f 3 ∷ f 2 ∷ f 1 ∷ []) bits → (a : Answer ℤ) → ClassFigureRule xs k a
      → a ≡ accepted (charged (eqb (parity_of k) 1) bits (f 6) (f 5 ∷ f 4 ∷ f 3 ∷ f 2 ∷ f 1 ∷ []))
  unfolding reached_figure
  class_of_columns bits favoured a r =
      let p = eqb (parity_of k) 1 in
      figure-reached X k known a r ∙ ap accepted (ap (reached_of p) sums_are ∙ reached_either p (f 6) _ bits favoured)
