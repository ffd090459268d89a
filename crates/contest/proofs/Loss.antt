-- The correlation of a word with a reading is the reading's weight less twice what the reading says against the word. The weight is the
-- same for every word, so the words are ordered by a natural number, their loss.
use mathlib.Core.Path.{◌≡◌, refl}
use mathlib.Core.Bool.{Bool, true, false}
use mathlib.Core.List.{List, [], ◌∷◌}
use Prim.Native.Nat.{ℕ, ◌+◌, ◌*◌, ◌≤◌}
use native.Mathlib.Omega.{arith}
use lib.IntN.{ℤ, nat_abs, ◌-ℤ◌}
use lib.ListN.{length}
use Rattle.signed.specs.Sign.{hi, lo, signed}
use Rattle.signed.proofs.Parts.{size-parts, add_parts, parts}
use Rattle.contest.specs.Readings.{correlation, change}
use Rattle.contest.specs.Losses.{loss, weight}

-- two words and two readings of one length
pub data Aligned : List Bool → List Bool → List ℤ → List ℤ → Type 0 where
  none : Aligned [] [] [] []
  more : {b c : Bool} {x y : ℤ} {bs cs : List Bool} {xs ys : List ℤ} → Aligned bs cs xs ys → Aligned (b ∷ bs) (c ∷ cs) (x ∷ xs) (y ∷ ys)

pub align : (bs cs : List Bool) (xs ys : List ℤ) {n : ℕ} → length bs ≡ n → length cs ≡ n → length xs ≡ n → length ys ≡ n → Aligned bs cs xs ys
align [] [] [] [] p q r s = none
align [] [] [] (y ∷ ys) p q r s = absurd (omega arith)
align [] [] (x ∷ xs) ys p q r s = absurd (omega arith)
align [] (c ∷ cs) xs ys p q r s = absurd (omega arith)
align (b ∷ bs) [] xs ys p q r s = absurd (omega arith)
align (b ∷ bs) (c ∷ cs) [] ys p q r s = absurd (omega arith)
align (b ∷ bs) (c ∷ cs) (x ∷ xs) [] p q r s = absurd (omega arith)
align (b ∷ bs) (c ∷ cs) (x ∷ xs) (y ∷ ys) p q r s = more (align bs cs xs ys {n = length bs} refl (omega arith) (omega arith) (omega arith))

one_balance : (b : Bool) (x : ℤ) → nat_abs x ≡ hi (signed b x) + lo (signed b x)
one_balance false x = size-parts x
one_balance true x = simp parts (omega arith)

pub balance : {bs cs : List Bool} {xs ys : List ℤ} → Aligned bs cs xs ys → hi (correlation bs xs) + 2 * loss bs xs ≡ lo (correlation bs xs) + weight xs
unfolding correlation
balance none = refl
balance (more {b = b} {x = x} {bs = bs} {xs = xs} a) = omega (arith, balance a, one_balance b x, add_parts (signed b x) (correlation bs xs))

-- the same of one word and one reading
pub level : (bs : List Bool) (xs : List ℤ) → length bs ≡ length xs → hi (correlation bs xs) + 2 * loss bs xs ≡ lo (correlation bs xs) + weight xs
level bs xs e = balance (align bs bs xs xs e e refl refl)

-- from one reading to another, the lead of one word over another falls by at most the change
one_shift : (b c : Bool) (x y : ℤ) → lo (signed b y) + lo (signed c x) ≤ lo (signed c y) + lo (signed b x) + nat_abs (y -ℤ x)
one_shift false false x y = omega arith
one_shift false true x y = simp parts (omega arith)
one_shift true false x y = simp parts (omega arith)
one_shift true true x y = omega arith

pub shift : {bs cs : List Bool} {xs ys : List ℤ} → Aligned bs cs xs ys → loss bs ys + loss cs xs ≤ loss cs ys + loss bs xs + change xs ys
unfolding change
shift none = omega arith
shift (more {b = b} {c = c} {x = x} {y = y} a) = omega (arith, shift a, one_shift b c x y)
