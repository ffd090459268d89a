-- The code as a family of words of bits: word m is the codeword of message m.
use Rattle.std.specs.Prelude.{Bool, List, [], ◌∷◌, ℕ, zero, suc, ◌/◌, ◌%◌, ◌^◌, eqb}
use Rattle.code.specs.Code.{positions, codeword_of}

-- Rule 1.2: the n lowest bits of a number, the highest of them first; of a word's 24, position 1 is the first
abbrev pub in_positions : ℕ → ℕ → List Bool
in_positions zero w = []
in_positions (suc n) w = eqb (w / 2 ^ n % 2) 1 ∷ in_positions n w

-- Rule 3.4: the codeword of message m, its 24 bits from position 1 on
unfoldable pub word : ℕ → List Bool
word m = in_positions positions (codeword_of m)
