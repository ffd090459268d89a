-- Rules 6.3, 6.4, 7.5 and 7.8: readings, their range, what they say for a word, and how much changes from one to another.
use Rattle.std.specs.Prelude.{◌≡◌, Bool, List, [], ◌∷◌, ℕ, ◌+◌, ℤ, pos, nat_abs, ◌+ℤ◌, ◌-ℤ◌, length}
use Rattle.signed.specs.Sign.{signed}
use Rattle.signed.specs.Within.{Within}

-- Rule 6.3: all confidences are between -B and B, both included
unfoldable pub InRange : ℕ → List ℤ → Type 0
InRange B [] = Unit {0}
InRange B (x ∷ xs) = Within B x × InRange B xs

-- Rule 6.3: a valid reading, for n positions and the range of B
pub record Reading (B n : ℕ) (xs : List ℤ) : Type 0 where
  pub long : length xs ≡ n
  pub range : InRange B xs

-- Rule 6.4: each confidence as it is where the word has a 0, negated where it has a 1, and all added up
unfoldable pub correlation : List Bool → List ℤ → ℤ
correlation [] xs = pos 0
correlation (b ∷ bs) [] = pos 0
correlation (b ∷ bs) (x ∷ xs) = signed b x +ℤ correlation bs xs

-- Rule 6.4: the correlation of each word of a family with a reading
abbrev pub scores : (ℕ → List Bool) → List ℤ → ℕ → ℤ
scores word xs k = correlation (word k) xs

-- Rule 7.8: a clean signal of a word: each confidence has size s and speaks for the word's bit
abbrev pub clean : ℕ → List Bool → List ℤ
clean s [] = []
clean s (b ∷ bs) = signed b (pos s) ∷ clean s bs

-- Rule 7.5: the size of a change: the sizes of the differences, added
unfoldable pub change : List ℤ → List ℤ → ℕ
change [] ys = 0
change (x ∷ xs) [] = 0
change (x ∷ xs) (y ∷ ys) = nat_abs (y -ℤ x) + change xs ys
