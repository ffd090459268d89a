-- Rules 1.3 to 1.5, 1.9 and 1.10: a word as six columns of four, a column's parity and projection, and the table of columns.
use Rattle.std.specs.Prelude.{List, [], ◌∷◌, map, ℕ, ◌+◌, ◌-◌, ◌*◌, ◌/◌, ◌%◌, ◌^◌, get_or, length}
use Rattle.code.specs.Characters.{◌⊕◌, ◌⊗◌, w, v}

-- Rules 1.3 and 1.2: column j is the positions 4j-3 to 4j, so four bits of the word. In a column the top one counts 8, and bit i 2^(4-i).
abbrev pub column : ℕ → ℕ → ℕ
column j word = word / 16 ^ (6 - j) % 16

abbrev pub bit : ℕ → ℕ → ℕ
bit i col = col / 2 ^ (4 - i) % 2

-- Rule 1.3: the six columns, column 1 first
abbrev pub columns : ℕ → List ℕ
columns word = column 1 word ∷ column 2 word ∷ column 3 word ∷ column 4 word ∷ column 5 word ∷ column 6 word ∷ []

-- Rule 1.3: the word that has these columns
abbrev pub joined : List ℕ → ℕ
joined [] = 0
joined (col ∷ cols) = col * 16 ^ length cols + joined cols

-- the sum of numbers; of bits, how many are ones
abbrev pub total : List ℕ → ℕ
total [] = 0
total (x ∷ xs) = x + total xs

-- Rule 1.5: the parity of a column
abbrev pub parity : ℕ → ℕ
parity col = (bit 1 col + bit 2 col + bit 3 col + bit 4 col) % 2

-- Rules 1.4 and 1.5: the top row's parity
abbrev pub top_row : ℕ → ℕ
top_row word = total (map (bit 1) (columns word)) % 2

-- Rule 1.9: the rows stand for 0, 1, w and v from the top; those with a one are added
abbrev pub projection : ℕ → ℕ
projection col = 0 ⊗ bit 1 col ⊕ 1 ⊗ bit 2 col ⊕ w ⊗ bit 3 col ⊕ v ⊗ bit 4 col

-- Rule 1.10's table: for each character its two even columns, then for each its two odd ones; of two, that with top bit 0 first.
abbrev pub interpretations : List ℕ
interpretations =
    0b0000 ∷ 0b1111 ∷ 0b0011 ∷ 0b1100 ∷ 0b0101 ∷ 0b1010 ∷ 0b0110 ∷ 0b1001
    ∷ 0b0111 ∷ 0b1000 ∷ 0b0100 ∷ 0b1011 ∷ 0b0010 ∷ 0b1101 ∷ 0b0001 ∷ 0b1110 ∷ []

-- Rule 1.10: the one column that a parity, a character and a top bit name
abbrev pub interpretation : ℕ → ℕ → ℕ → ℕ
interpretation p x top = get_or interpretations (p * 8 + x * 2 + top) 0

-- Rule 3.4: the columns that one parity, characters and top bits name
abbrev pub interpreted : ℕ → List ℕ → List ℕ → List ℕ
interpreted p [] tops = []
interpreted p (x ∷ xs) [] = []
interpreted p (x ∷ xs) (top ∷ tops) = interpretation p x top ∷ interpreted p xs tops
