-- The sign of a number, its parts above and below zero, and negation by a bit.
use Rattle.std.specs.Prelude.{Bool, true, false, ℕ, suc, ℤ, pos, negsuc, neg_ℤ}

-- 1 exactly for a negative number: the bit that a confidence (9.2) or a sum (8.3) speaks for; a zero, which speaks for neither, has 0
abbrev pub sign : ℤ → Bool
sign (pos n) = false
sign (negsuc n) = true

-- how far a number lies above zero, and how far below
abbrev pub hi : ℤ → ℕ
hi (pos n) = n
hi (negsuc n) = 0

abbrev pub lo : ℤ → ℕ
lo (pos n) = 0
lo (negsuc n) = suc n

-- Rule 6.4: a number, negated where the bit is 1
abbrev pub signed : Bool → ℤ → ℤ
signed false x = x
signed true x = neg_ℤ x
