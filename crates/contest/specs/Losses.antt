-- What a reading says against a word, and all that it says: the second less twice the first is the correlation.
use Rattle.std.specs.Prelude.{Bool, List, [], ◌∷◌, ℕ, ◌+◌, ℤ, nat_abs}
use Rattle.signed.specs.Sign.{lo, signed}

-- the sizes of the confidences that speak against the word's bit, added
abbrev pub loss : List Bool → List ℤ → ℕ
loss [] xs = 0
loss (b ∷ bs) [] = 0
loss (b ∷ bs) (x ∷ xs) = lo (signed b x) + loss bs xs

-- the sizes, added
abbrev pub weight : List ℤ → ℕ
weight [] = 0
weight (x ∷ xs) = nat_abs x + weight xs
