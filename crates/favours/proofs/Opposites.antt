-- What every answer of `column_figure` tells (8.3): the two interpretations' correlations, and so which of them the column favours.
use mathlib.Core.Path.{◌≡◌}
use mathlib.Core.List.{List}
use Prim.Native.Nat.{ℕ, ◌-◌}
use lib.IntN.{ℤ}
use Rattle.signed.specs.Within.{Within}
use Rattle.signed.specs.Opposites.{Opposites}
use Rattle.contest.specs.Readings.{Reading}
use Rattle.code.specs.Code.{positions}
use Rattle.golay.specs.Answers.{accepted}
use Rattle.classes.specs.Classes.{parity_of, character_in, column_correlation}
use Rattle.classes.proofs.Favours.{figure_opposites, figure-size}
use Rattle.favours.specs.Calls.{column_figure_rule}
use Rattle.favours.proofs.Rules.{answered-figure}

module _ (xs : List ℤ) (k j : ℕ) {f : ℤ} (answer : accepted f ≡ column_figure_rule xs k j) where
  pub answer_opposites : Opposites f (column_correlation xs (j - 1) (parity_of k) (character_in k j) 0) (column_correlation xs (j - 1) (parity_of k) (character_in k j) 1)
  answer_opposites = rw (answered-figure xs k j answer) (figure_opposites xs k j)

  pub answer-size : Reading 2147483647 positions xs → Within 8589934588 f
  answer-size X = rw (answered-figure xs k j answer) (figure-size X k j)
