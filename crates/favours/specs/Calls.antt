-- Rule 11.3: what the column figure's call answers, for every input, its refusals in the order of rule 11.2.
use Rattle.std.specs.Prelude.{Bool, not, ◌&&◌, List, ℕ, leb, ℤ}
use Rattle.code.specs.Code.{positions}
use Rattle.golay.specs.declared.kinds.Refusal.TheVariants.{WrongLength, MostNegative, ClassAbove, NoColumn}
use Rattle.golay.specs.Answers.{Answer, accepted, refuse}
use Rattle.golay.specs.Calls.{wrong_length}
use Rattle.reading.specs.Checks.{most_negative}
use Rattle.classes.specs.Classes.{class_above, column_figure}

-- Rule 11.1, number 18: a column number is not 1 to 6
abbrev pub no_column : ℕ → Bool
no_column j = not (leb 1 j && leb j 6)

-- Rule 11.3, column figure: 1, then 2, then 11, then 18, or the figure (8.3)
unfoldable pub column_figure_rule : List ℤ → ℕ → ℕ → Answer ℤ
column_figure_rule xs k j =
    refuse WrongLength (wrong_length positions xs)
    (refuse MostNegative (most_negative xs) (refuse ClassAbove (class_above k) (refuse NoColumn (no_column j) (accepted (column_figure xs k j)))))
