-- Rules 1.6 to 1.8 and 2.1: the four characters by their numbers, how they are added and multiplied, and the hexacode of Conway and Sloane.
use Rattle.std.specs.Prelude.{List, [], ◌∷◌, ℕ, ◌+◌, ◌*◌, get_or}
use Rattle.std.specs.Int.Bits.{bit_xor}

infixl 65 ◌⊕◌
infixl 70 ◌⊗◌
-- Rule 1.6: the numbers of w and v; 0 and 1 are their own
abbrev pub w : ℕ
w = 2

abbrev pub v : ℕ
v = 3

-- Rule 1.7: the sum is the exclusive or
abbrev pub ◌⊕◌ : ℕ → ℕ → ℕ
a ⊕ b = bit_xor a b

-- Rule 1.8's table, its rows one after another: by 0, by 1, by w, by v
abbrev pub products : List ℕ
products = 0 ∷ 0 ∷ 0 ∷ 0 ∷ 0 ∷ 1 ∷ w ∷ v ∷ 0 ∷ w ∷ v ∷ 1 ∷ 0 ∷ v ∷ 1 ∷ w ∷ []

-- Rule 1.8: the product
abbrev pub ◌⊗◌ : ℕ → ℕ → ℕ
a ⊗ b = get_or products (a * 4 + b) 0

-- Rule 2.1: the last three characters of a hexacodeword, by its first three
abbrev pub fourth : ℕ → ℕ → ℕ → ℕ
fourth a b c = a ⊕ b ⊕ c

abbrev pub fifth : ℕ → ℕ → ℕ → ℕ
fifth a b c = a ⊗ v ⊕ b ⊗ w ⊕ c

abbrev pub sixth : ℕ → ℕ → ℕ → ℕ
sixth a b c = a ⊗ w ⊕ b ⊗ v ⊕ c

-- Rule 2.1: all six
abbrev pub hexacodeword : ℕ → ℕ → ℕ → List ℕ
hexacodeword a b c = a ∷ b ∷ c ∷ fourth a b c ∷ fifth a b c ∷ sixth a b c ∷ []
