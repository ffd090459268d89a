-- Words of bits as numbers, the lowest bit first; and with one bit more in front, which makes the parity.
use Rattle.std.specs.Prelude.{Bool, List, [], ◌∷◌, ℕ, zero, suc, ◌+◌, ◌*◌, ◌/◌, ◌%◌, eqb}
use Rattle.contest.specs.Words.{differ, one, odd}

-- the number of a word
abbrev pub val : List Bool → ℕ
val [] = 0
val (b ∷ bs) = 2 * val bs + one b

-- the n lowest bits of a number
abbrev pub bits : ℕ → ℕ → List Bool
bits zero w = []
bits (suc n) w = eqb (w % 2) 1 ∷ bits n (w / 2)

-- the word of n bits and one in front that brings its parity to p
abbrev pub tops : ℕ → Bool → ℕ → List Bool
tops n p j = differ p (odd (bits n j)) ∷ bits n j
