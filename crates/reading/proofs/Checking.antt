-- The most negative number: a list has it exactly where some place does.
use mathlib.Core.Path.{◌≡◌, refl, sym}
use mathlib.Core.Bool.{Bool, true, false, ◌||◌, true≢false}
use mathlib.Core.List.{List, [], ◌∷◌}
use Prim.Native.Nat.{ℕ, zero, suc, ◌<◌}
use native.Mathlib.Omega.{arith}
use lib.IntN.{ℤ, pos, negsuc}
use lib.ListN.{length, get_or}
use borrow.Author.Tests.{ne_eqb}
use Rattle.std.specs.Bool.{MatchBool}
use Rattle.std.specs.List.{HoldsAt, AllWithin}
use Rattle.signed.specs.Within.{Within}
use Rattle.contest.specs.Readings.{Reading}
use Rattle.contest.proofs.Bounds.{at-range}
use Rattle.reading.specs.Checks.{is_most_negative, most_negative, Checked}

or-true : (b : Bool) → (b || true) ≡ true
or-true true = refl
or-true false = refl

some-such : (xs : List ℤ) (k : ℕ) → k < length xs → is_most_negative (get_or xs k (pos 0)) ≡ true → most_negative xs ≡ true
some-such [] k h e = absurd (omega arith)
some-such (x ∷ xs) zero h e = rw e refl
some-such (x ∷ xs) (suc k) h e = rw (some-such xs k (omega arith) e) (or-true (is_most_negative x))

not_negative : (z : ℤ) → Within 2147483647 z → is_most_negative z ≡ false
not_negative (pos n) w = refl
not_negative (negsuc n) w = ne_eqb n 2147483647 (λ e. omega (arith, w.within))

pub none-negative : (xs : List ℤ) → ((k : ℕ) → k < length xs → Within 2147483647 (get_or xs k (pos 0))) → most_negative xs ≡ false
none-negative [] w = refl
none-negative (x ∷ xs) w = rw (not_negative x (w 0 (omega arith)), none-negative xs (λ k h. w (suc k) (omega arith))) refl

-- what is found by asking each one, where one that is passed lies in the range
pub checked :
    (xs : List ℤ) (r : Bool)
    → MatchBool r
    ((k : ℕ) × (k < length xs) × HoldsAt (λ x. is_most_negative x ≡ true) xs k)
    (AllWithin (λ x. Within 2147483647 x) xs 0 (length xs))
    → Checked xs r
checked xs true (k, h, e) = record { is = sym (some-such xs k h (e (pos 0))); range = λ g. absurd (true≢false g) }
checked xs false a =
    let w : (k : ℕ) → k < length xs → Within 2147483647 (get_or xs k (pos 0)) = λ k h. a k (pos 0) (omega arith) h in
    record { is = sym (none-negative xs w); range = λ g. at-range 2147483647 xs w }

-- a reading of the right length in which none was found is a valid one
pub checked_reading : (xs : List ℤ) (r : Bool) → length xs ≡ 24 → Checked xs r → r ≡ false → Reading 2147483647 24 xs
checked_reading xs r l c e = record { long = l; range = c.range e }
