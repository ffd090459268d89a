-- The worked column figures (16.8) hold, one by one over their table.
use mathlib.Core.Path.{refl}
use mathlib.Core.List.{List, [], ◌∷◌}
use Rattle.contest.specs.Readings.{correlation}
use Rattle.classes.specs.Classes.{characters_of, column_sum, column_figure}
use Rattle.favours.specs.Calls.{column_figure_rule}
use Rattle.favours.specs.Cases.{Case, cases, Holds}

abbrev pub AllHold : List Case → Type 0
AllHold [] = Unit {0}
AllHold (c ∷ cs) = Holds c × AllHold cs

pub cases_hold : AllHold cases
unfolding cases column_figure_rule column_figure column_sum characters_of correlation
cases_hold = (refl, (refl, (refl, (refl, (refl, (refl, (refl, (refl, (refl, tt)))))))))
