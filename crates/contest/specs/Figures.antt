-- Rules 8.4 and 8.5: the largest correlation among the words of one parity, reached from the reading's sizes and signs.
use Rattle.std.specs.Prelude.{◌≡◌, Bool, cond, List, [], ◌∷◌, ℕ, ◌+◌, ◌*◌, min, ℤ, pos, nat_abs, ◌-ℤ◌, ◌≤ℤ◌}
use Rattle.signed.specs.Sign.{sign, signed}
use Rattle.contest.specs.Words.{differ, one, odd}
use Rattle.contest.specs.Losses.{weight}

-- Rule 8.3: the bits that the numbers favour, 1 for one that is negative
abbrev pub signs : List ℤ → List Bool
signs [] = []
signs (f ∷ fs) = sign f ∷ signs fs

-- Rule 8.4: the smallest size among f and fs
abbrev pub least : ℤ → List ℤ → ℕ
least f [] = nat_abs f
least f (g ∷ fs) = min (nat_abs f) (least g fs)

-- Rule 8.4: the sizes added, less twice the least where the bits bs, favoured by the numbers, have not the parity p
abbrev pub charged : Bool → List Bool → ℤ → List ℤ → ℤ
charged p bs f fs =
    cond (differ p (odd bs)) (pos (weight (f ∷ fs)) -ℤ pos (2 * least f fs)) (pos (weight (f ∷ fs)))

-- Rule 8.4: the same by the signs. Rule 8.5: a number that is zero may be given either sign; where one is, the least is zero, and nothing is
-- taken off.
abbrev pub reached : Bool → ℤ → List ℤ → ℤ
reached p f fs = charged p (signs (f ∷ fs)) f fs

-- Rules 8.3 and 8.5: a bit that a number favours: 0 for a positive one, 1 for a negative one, either for zero
abbrev pub Favours : ℤ → Bool → Type 0
Favours f b = pos 0 ≤ℤ signed b f

-- a favoured bit of each number
unfoldable pub Favoured : List ℤ → List Bool → Type 0
Favoured [] bs = bs ≡ []
Favoured (f ∷ fs) [] = ⊥
Favoured (f ∷ fs) (b ∷ bs) = Favours f b × Favoured fs bs

-- a size and a sign in one number: eight times the size, and one where the number is negative
abbrev pub code : ℤ → ℕ
code f = 8 * nat_abs f + one (sign f)
