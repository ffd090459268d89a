-- What a column's ones add to the syndrome (4.1), as the code adds it up from the column's four rows. No promise of a call cites it.
use Rattle.std.specs.Prelude.{List, [], ◌∷◌, ℕ, get_or}
use Rattle.binary.specs.Words.{row_sum}

abbrev pub column_syndrome : List ℕ → ℕ → ℕ
column_syndrome rows column = row_sum (get_or rows 0 0 ∷ get_or rows 1 0 ∷ get_or rows 2 0 ∷ get_or rows 3 0 ∷ []) column
