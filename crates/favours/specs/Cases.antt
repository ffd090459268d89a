-- Rule 16.8: the worked column figures, as one table.
use Rattle.std.specs.Prelude.{◌≡◌, List, [], ◌∷◌, ℕ, zero, suc, ◌+◌, ℤ, pos, neg_ℤ}
use Rattle.code.specs.Code.{positions}
use Rattle.golay.specs.Answers.{accepted}
use Rattle.favours.specs.Calls.{column_figure_rule}

-- n numbers, from i on
abbrev pub counting_from : ℕ → ℕ → List ℤ
counting_from i zero = []
counting_from i (suc n) = pos i ∷ counting_from (i + 1) n

-- Rule 16.8: the reading that has the confidence i at each position i
abbrev pub counting : List ℤ
counting = counting_from 1 positions

-- a class, a column and its figure
pub data Case : Type 0 where
  figure : ℕ → ℕ → ℤ → Case

-- Rule 16.8: all of them
unfoldable pub cases : List Case
cases =
    figure 0 1 (pos 10) ∷ figure 21 2 (neg_ℤ (pos 4)) ∷ figure 42 3 (neg_ℤ (pos 2)) ∷ figure 63 4 (pos 0) ∷ figure 64 5 (neg_ℤ (pos 40))
    ∷ figure 85 4 (pos 30) ∷ figure 106 3 (pos 20) ∷ figure 127 2 (pos 10) ∷ figure 127 6 (neg_ℤ (pos 48)) ∷ []

-- what a case says: the call answers with this figure (11.3)
abbrev pub Holds : Case → Type 0
Holds (figure k j f) = column_figure_rule counting k j ≡ accepted f
