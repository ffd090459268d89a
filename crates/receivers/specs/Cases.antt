-- Rule 16.10: the worked choices, as one table.
use Rattle.std.specs.Prelude.{◌≡◌, List, [], ◌∷◌, ◌++◌, ℕ, ℤ, pos, replicate}
use Rattle.code.specs.Code.{positions}
use Rattle.reading.specs.Cases.{all_ones, all_zeros, one_against}
use Rattle.receivers.specs.Calls.{Chooses}

-- Rule 16.10: all 2
abbrev pub all_twos : List ℤ
all_twos = replicate positions (pos 2)

-- Rule 16.10: the two receivers' buffers
unfoldable pub worked_first : List ℤ
worked_first = all_ones ++ (all_ones ++ (all_zeros ++ (all_zeros ++ all_twos)))

unfoldable pub worked_second : List ℤ
worked_second = all_twos ++ (all_ones ++ (all_ones ++ one_against))

-- a number, the choice, and the choice where the receivers are exchanged
pub data Case : Type 0 where
  choice : ℕ → ℕ → ℕ → Case

-- Rule 16.10: all of them
abbrev pub cases : List Case
cases = choice 0 2 1 ∷ choice 1 1 1 ∷ choice 2 2 1 ∷ choice 3 0 0 ∷ choice 4 0 0 ∷ []

-- what a case says: every choice that is allowed is this one (17.4)
abbrev pub Holds : Case → Type 0
Holds (choice number c d) =
    ((k : ℕ) → Chooses worked_first worked_second number k → k ≡ c) × ((k : ℕ) → Chooses worked_second worked_first number k → k ≡ d)
