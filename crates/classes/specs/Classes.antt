-- Rules 8.1 to 8.5: a class's parity, its characters, what a reading's columns say for them, and the figure that this comes to. Column i is
-- counted from 0, column j from 1 as in the rules. Lists of six have the last column first, as they grow from the first column on.
use Rattle.std.specs.Prelude.{Bool, List, [], ◌∷◌, ℕ, ◌-◌, ◌*◌, ◌/◌, ◌%◌, leb, eqb, ℤ, pos, length, get_or, take, drop}
use Rattle.contest.specs.Readings.{correlation}
use Rattle.contest.specs.Figures.{reached}
use Rattle.code.specs.Characters.{fourth, fifth, sixth}
use Rattle.code.specs.Array.{interpretation}
use Rattle.classes.specs.Codewords.{in_positions}

-- Rule 8.1: a class is a number below this
abbrev pub classes : ℕ
classes = 128

-- Rule 11.1, number 11: a class number exceeds 127
abbrev pub class_above : ℕ → Bool
class_above k = leb classes k

-- Rules 8.1 and 3.2: the parity of class k, which is bit 11 of its messages
abbrev pub parity_of : ℕ → ℕ
parity_of k = k / 64 % 2

-- Rule 2.1: the hexacodeword of a, b and c, its last character first
abbrev pub six_characters : ℕ → ℕ → ℕ → List ℕ
six_characters a b c = sixth a b c ∷ fifth a b c ∷ fourth a b c ∷ c ∷ b ∷ a ∷ []

-- Rules 8.1 and 3.2: the characters of class k, by the a, b and c that its messages hold in their bits 10 down to 5
unfoldable pub characters_of : ℕ → List ℕ
characters_of k = six_characters (k / 16 % 4) (k / 4 % 4) (k % 4)

-- Rules 8.1 and 1.3: the character of class k in column j, 1 to 6
abbrev pub character_in : ℕ → ℕ → ℕ
character_in k j = get_or (characters_of k) (6 - j) 0

-- Rule 8.3: the interpretation with parity p, character x and top bit t, correlated with column i of a reading
abbrev pub column_correlation : List ℤ → ℕ → ℕ → ℕ → ℕ → ℤ
column_correlation xs i p x t = correlation (in_positions 4 (interpretation p x t)) (take 4 (drop (4 * i) xs))

-- Rule 8.3: of the interpretations with parity p and character x the one with top bit 0, as four bits from the top
abbrev pub top_zero : ℕ → ℕ → List Bool
top_zero p x = in_positions 4 (interpretation p x 0)

-- Rule 8.3: its correlation with column i of a reading; that of the one with top bit 1 has the opposite sign
unfoldable pub column_sum : List ℤ → ℕ → ℕ → ℕ → ℤ
column_sum xs i p x = column_correlation xs i p x 0

-- Rule 8.3: the sums of as many columns as there are characters
abbrev pub column_sums : List ℤ → ℕ → List ℕ → List ℤ
column_sums xs p [] = []
column_sums xs p (x ∷ cs) = column_sum xs (length cs) p x ∷ column_sums xs p cs

-- Rules 8.3 and 1.3: the figure of column j, 1 to 6, in class k: the sum for the class's parity and for its character there
unfoldable pub column_figure : List ℤ → ℕ → ℕ → ℤ
column_figure xs k j = column_sum xs (j - 1) (parity_of k) (character_in k j)

-- Rule 8.3: the six sums of class k
abbrev pub class_sums : List ℤ → ℕ → List ℤ
class_sums xs k = column_sums xs (parity_of k) (characters_of k)

-- Rules 8.4 and 8.5: a class's figure as it is reached from its sums: the six sizes added, and twice the least taken off where the signs, so
-- the favoured top bits, have not the class's parity
abbrev pub reached_of : Bool → List ℤ → ℤ
reached_of p [] = pos 0
reached_of p (f ∷ fs) = reached p f fs

-- Rule 8.4: the reached figure of class k
unfoldable pub reached_figure : List ℤ → ℕ → ℤ
reached_figure xs k = reached_of (eqb (parity_of k) 1) (class_sums xs k)
