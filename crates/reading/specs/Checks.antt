-- Rules 6.3 and 15.4: which readings are refused before anything is negated.
use Rattle.std.specs.Prelude.{◌≡◌, Bool, false, ◌||◌, List, [], ◌∷◌, eqb, ℤ, pos, negsuc}
use Rattle.contest.specs.Readings.{InRange}

-- Rule 6.3: the one number of 32 bits that is no confidence
abbrev pub is_most_negative : ℤ → Bool
is_most_negative (pos n) = false
is_most_negative (negsuc n) = eqb n 2147483647

-- Rule 11.1, number 2: some confidence equals it
abbrev pub most_negative : List ℤ → Bool
most_negative [] = false
most_negative (x ∷ xs) = is_most_negative x || most_negative xs

-- Rule 6.3: whether a confidence is the most negative number; where none is, each lies in the range
pub record Checked (xs : List ℤ) (r : Bool) : Type 0 where
  pub is : r ≡ most_negative xs
  pub range : r ≡ false → InRange 2147483647 xs
