-- How large a correlation gets in a range, and how far apart the losses of two words get.
use mathlib.Core.Bool.{Bool, true, false}
use mathlib.Core.List.{List, [], ◌∷◌}
use Prim.Native.Nat.{ℕ, zero, suc, ◌+◌, ◌*◌, ◌≤◌, ◌<◌}
use native.Mathlib.Omega.{arith}
use native.Mathlib.Nat.{add-mul}
use lib.IntN.{ℤ, pos, nat_abs}
use lib.ListN.{length, get_or, take, drop}
use Rattle.signed.specs.Sign.{lo, signed}
use Rattle.signed.specs.Within.{Within}
use Rattle.signed.proofs.Parts.{lo-neg, size-parts}
use Rattle.signed.proofs.Bounds.{size-signed, size-add, within-pos}
use Rattle.contest.specs.Words.{differ, one, distance}
use Rattle.contest.specs.Readings.{InRange, correlation}
use Rattle.contest.specs.Losses.{loss, weight}
use Rattle.contest.proofs.Loss.{Aligned, none, more}

-- a range, number by number
pub range_at : (B : ℕ) (xs : List ℤ) → InRange B xs → (k : ℕ) → Within B (get_or xs k (pos 0))
unfolding InRange
range_at B [] r k = within-pos (omega arith)
range_at B (x ∷ xs) r zero = r.0
range_at B (x ∷ xs) r (suc k) = range_at B xs r.1 k

pub at-range : (B : ℕ) (xs : List ℤ) → ((k : ℕ) → k < length xs → Within B (get_or xs k (pos 0))) → InRange B xs
unfolding InRange
at-range B [] w = tt
at-range B (x ∷ xs) w = (w 0 (omega arith), at-range B xs (λ k h. w (suc k) (omega arith)))

-- and of a part
pub take_range : (B n : ℕ) (xs : List ℤ) → InRange B xs → InRange B (take n xs)
unfolding InRange
take_range B zero xs r = tt
take_range B (suc n) [] r = tt
take_range B (suc n) (x ∷ xs) r = (r.0, take_range B n xs r.1)

pub drop-range : (B n : ℕ) (xs : List ℤ) → InRange B xs → InRange B (drop n xs)
unfolding InRange
drop-range B zero xs r = r
drop-range B (suc n) [] r = tt
drop-range B (suc n) (x ∷ xs) r = drop-range B n xs r.1

-- every reading lies in some range: that of its weight
weight-at : (xs : List ℤ) (k : ℕ) → nat_abs (get_or xs k (pos 0)) ≤ weight xs
weight-at [] k = omega arith
weight-at (x ∷ xs) zero = omega arith
weight-at (x ∷ xs) (suc k) = omega (arith, weight-at xs k)

pub own_range : (xs : List ℤ) → InRange (weight xs) xs
own_range xs = at-range (weight xs) xs (λ k h. record { within = weight-at xs k })

pub weight-range : (B : ℕ) (xs : List ℤ) → InRange B xs → weight xs ≤ length xs * B
unfolding InRange
weight-range B [] r = omega arith
weight-range B (x ∷ xs) r = omega (arith, weight-range B xs r.1, r.0.within, add-mul 1 (length xs) B)

pub correlation-weight : (bs : List Bool) (xs : List ℤ) → nat_abs (correlation bs xs) ≤ weight xs
unfolding correlation
correlation-weight [] xs = omega arith
correlation-weight (b ∷ bs) [] = omega arith
correlation-weight (b ∷ bs) (x ∷ xs) = omega (arith, size-add (signed b x) (correlation bs xs), size-signed b x, correlation-weight bs xs)

-- where two words agree they lose the same
one_apart : (B : ℕ) (b c : Bool) (x : ℤ) → nat_abs x ≤ B → lo (signed c x) ≤ lo (signed b x) + one (differ b c) * B
one_apart B false false x h = omega arith
one_apart B false true x h = omega (arith, lo-neg x, size-parts x)
one_apart B true false x h = omega (arith, lo-neg x, size-parts x)
one_apart B true true x h = omega arith

pub apart : (B : ℕ) {bs cs : List Bool} {xs ys : List ℤ} → Aligned bs cs xs ys → InRange B xs → loss cs xs ≤ loss bs xs + distance bs cs * B
unfolding InRange distance
apart B none r = omega arith
apart B (more {b = b} {c = c} {x = x} {bs = bs} {cs = cs} a) r =
    omega (arith, one_apart B b c x r.0.within, apart B a r.1, add-mul (one (differ b c)) (distance bs cs) B)
