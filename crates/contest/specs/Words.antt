-- Words of bits, how far two of them stand apart, and the families that contend for a reading.
use Rattle.std.specs.Prelude.{◌≡◌, Bool, true, false, cond, List, [], ◌∷◌, ℕ, ◌+◌, ◌≤◌, ◌<◌, length}

-- exclusive or
abbrev pub differ : Bool → Bool → Bool
differ false c = c
differ true false = true
differ true true = false

-- a bit as a number
abbrev pub one : Bool → ℕ
one b = cond b 1 0

-- the parity of a word, as rule 1.5 has it of a column
abbrev pub odd : List Bool → Bool
odd [] = false
odd (b ∷ bs) = differ b (odd bs)

-- Rule 5.1: in how many positions two words differ
unfoldable pub distance : List Bool → List Bool → ℕ
distance [] cs = 0
distance (b ∷ bs) [] = 0
distance (b ∷ bs) (c ∷ cs) = one (differ b c) + distance bs cs

-- N words of n bits, at least two and no two the same
pub record Family (N n : ℕ) (word : ℕ → List Bool) : Type 0 where
  pub two : 2 ≤ N
  pub long : (m : ℕ) → m < N → length (word m) ≡ n
  pub apart : (m k : ℕ) → m < N → k < N → word m ≡ word k → m ≡ k
