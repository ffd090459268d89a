-- Two columns together: the columns 3 and 4 in the first 32 places, 5 and 6 in the others, by parity, character and character.
use Rattle.std.specs.Prelude.{◌≡◌, List, ℕ, ◌+◌, ◌*◌, ◌/◌, ◌%◌, get_or}
use Rattle.columns.specs.Places.{Filled}

-- above all codes of sums
abbrev pub widest : ℕ
widest = 68719476737

-- which codes stand together at place j
abbrev pub first_of : ℕ → ℕ
first_of j = 16 + j / 32 * 16 + j % 32 / 4

abbrev pub second_of : ℕ → ℕ
second_of j = 24 + j / 32 * 16 + j % 32 / 16 * 4 + j % 4

-- r has all 64 of the codes e, each as a relation R tells of two codes
abbrev pub PairsBy : (ℕ → ℕ → ℕ → Type 0) → List ℕ → List ℕ → Type 0
PairsBy R e r = Filled 0 (λ j z. R (get_or e (first_of j) 0) (get_or e (second_of j) 0) z) 64 64 r

-- z is what belongs at place j, by a rule f for two codes
pub record PairAt (f : ℕ → ℕ → ℕ) (e : List ℕ) (j z : ℕ) : Type 0 where
  pub value : z ≡ f (get_or e (first_of j) 0) (get_or e (second_of j) 0)

-- r has all 64 of the codes e
abbrev pub Pairs : (ℕ → ℕ → ℕ) → List ℕ → List ℕ → Type 0
Pairs f e r = Filled 0 (PairAt f e) 64 64 r
