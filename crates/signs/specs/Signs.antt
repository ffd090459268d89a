-- Rules 9.2 and 9.4: the signs of a reading as a word, and what an error costs.
use Rattle.std.specs.Prelude.{Bool, cond, List, [], ◌∷◌, ℕ, ◌+◌, ◌*◌, ◌/◌, ◌%◌, ◌^◌, eqb, ℤ, nat_abs, length}
use Rattle.signed.specs.Sign.{sign}
use Rattle.contest.specs.Words.{one}

-- the word that has a 1 at each confidence for which a test holds; position 1 counts most (1.2)
unfoldable pub marked : (ℤ → Bool) → List ℤ → ℕ
marked test [] = 0
marked test (x ∷ xs) = one (test x) * 2 ^ length xs + marked test xs

-- Rule 9.2: the word of signs, a 1 where the confidence is below zero. Of a reading with zeros it is the least filling, which has a 0 at each.
abbrev pub sign_word : List ℤ → ℕ
sign_word xs = marked sign xs

-- Rule 9.4: the sizes of the confidences at the ones of an error, added up
unfoldable pub cost : ℕ → List ℤ → ℕ
cost error [] = 0
cost error (x ∷ xs) = error / 2 ^ length xs % 2 * nat_abs x + cost error xs

-- a slice of n confidences, and nothing of any other
abbrev pub whole : ℕ → List ℤ → List ℤ
whole n xs = cond (eqb (length xs) n) xs []
