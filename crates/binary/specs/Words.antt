-- Words of bits, of any length, as numbers: how many ones a word has, in how many positions two words differ, and a sum of rows that a word picks.
use Rattle.std.specs.Prelude.{List, [], ◌∷◌, ℕ, zero, suc, ◌+◌, ◌*◌, ◌/◌, ◌%◌}
use Rattle.std.specs.Int.Bits.{bit_xor}

-- the number of ones among the n lowest bits of a word; rules 5.2 and 5.4 ask it of 24
unfoldable pub ones : ℕ → ℕ → ℕ
ones zero w = 0
ones (suc n) w = w % 2 + ones n (w / 2)

-- Rule 5.1: the number of positions, of n, in which two words differ
abbrev pub distance : ℕ → ℕ → ℕ → ℕ
distance n a b = ones n (bit_xor a b)

-- the exclusive or of the rows at the ones of a word, lowest bit first, as rule 3.6 adds up codewords
abbrev pub row_sum : List ℕ → ℕ → ℕ
row_sum [] w = 0
row_sum (r ∷ rs) w = bit_xor (w % 2 * r) (row_sum rs (w / 2))
