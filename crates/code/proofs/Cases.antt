-- The worked encodings and syndromes (16.1, 16.2) hold, by one test over their table.
-- Assumes nothing.
use mathlib.Core.Bool.{Bool, true, ◌&&◌}
use mathlib.Core.List.{List, [], ◌∷◌}
use lib.Dec.{T}
use Rattle.code.specs.Code.{codeword_of, syndrome_of}
use Rattle.code.specs.Cases.{Case, cases, holds}

abbrev pub all_hold : List Case → Bool
all_hold [] = true
all_hold (c ∷ cs) = holds c && all_hold cs

pub cases_hold : T (all_hold cases)
unfolding codeword_of syndrome_of cases
cases_hold = tt
