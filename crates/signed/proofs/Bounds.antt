-- The size of a number: of a sum, a difference, an opposite, a product and a quotient, and the same of the record `Within`.
use mathlib.Core.Path.{◌≡◌, refl, ap}
use mathlib.Core.Bool.{Bool, true, false}
use Prim.Native.Nat.{ℕ, suc, ◌+◌, ◌*◌, ◌/◌, ◌≤◌}
use native.Mathlib.Omega.{arith}
use native.Mathlib.Nat.{le_trans, mul-le-mul, div-le_self}
use lib.IntN.{ℤ, pos, negsuc, neg_ℤ, nat_abs, ◌+ℤ◌, ◌-ℤ◌, ◌*ℤ◌}
use lib.Signed.{quot_z, ◌≤ℤ◌, ◌<ℤ◌}
use Rattle.signed.specs.Sign.{signed}
use Rattle.signed.specs.Within.{Within}
use Rattle.signed.proofs.Parts.{hi-neg, lo-neg, add_parts, one_part, size-parts, ints, parts}

pub size-neg : (z : ℤ) → nat_abs (neg_ℤ z) ≡ nat_abs z
size-neg z = omega (arith, hi-neg z, lo-neg z, size-parts z, size-parts (neg_ℤ z))

pub size-signed : (b : Bool) (z : ℤ) → nat_abs (signed b z) ≡ nat_abs z
size-signed false z = refl
size-signed true z = simp parts (omega arith)

pub size-add : (x y : ℤ) → nat_abs (x +ℤ y) ≤ nat_abs x + nat_abs y
size-add x y = omega (arith, add_parts x y, one_part (x +ℤ y), size-parts x, size-parts y, size-parts (x +ℤ y))

pub size-sub : (x y : ℤ) → nat_abs (x -ℤ y) ≤ nat_abs x + nat_abs y
size-sub x y = omega (arith, size-add x (neg_ℤ y), size-neg y)

pub size-mul : (x y : ℤ) → nat_abs (x *ℤ y) ≡ nat_abs x * nat_abs y
size-mul (pos a) (pos b) = refl
size-mul (pos a) (negsuc b) = size-neg (pos (a * suc b))
size-mul (negsuc a) (pos b) = size-neg (pos (suc a * b))
size-mul (negsuc a) (negsuc b) = refl

pub size_quot : (x y : ℤ) → nat_abs (quot_z x y) ≤ nat_abs x
size_quot (pos a) (pos b) = div-le_self a b
size_quot (pos a) (negsuc b) = rw (size-neg (pos (a / suc b))) (div-le_self a (suc b))
size_quot (negsuc a) (pos b) = rw (size-neg (pos (suc a / b))) (div-le_self (suc a) b)
size_quot (negsuc a) (negsuc b) = div-le_self (suc a) (suc b)

-- what was doubled, halved
pub quot_double : (n : ℕ) → quot_z (pos (2 * n)) (pos 2) ≡ pos n
quot_double n = ap pos (omega arith)

-- the size, by the sign
pub size_below : {z : ℤ} → z <ℤ pos 0 → neg_ℤ z ≡ pos (nat_abs z)
size_below {z} h = omega (ints, hi-neg z, lo-neg z, size-parts z, one_part z)

pub size_above : {z : ℤ} → pos 0 ≤ℤ z → z ≡ pos (nat_abs z)
size_above {z} h = omega (ints, size-parts z, one_part z)

-- ---- as a record

pub within-pos : {m n : ℕ} → m ≤ n → Within n (pos m)
within-pos h = record { within = h }

pub within_le : {m n : ℕ} {z : ℤ} → Within m z → m ≤ n → Within n z
within_le w h = record { within = le_trans w.within h }

pub within-neg : {n : ℕ} {z : ℤ} → Within n z → Within n (neg_ℤ z)
within-neg {z = z} w = record { within = omega (arith, w.within, size-neg z) }

pub within_signed : {n : ℕ} {z : ℤ} (b : Bool) → Within n z → Within n (signed b z)
within_signed {z = z} b w = record { within = omega (arith, w.within, size-signed b z) }

pub within-add : {m n : ℕ} {x y : ℤ} → Within m x → Within n y → Within (m + n) (x +ℤ y)
within-add {x = x} {y = y} v w = record { within = omega (arith, v.within, w.within, size-add x y) }

pub within-sub : {m n : ℕ} {x y : ℤ} → Within m x → Within n y → Within (m + n) (x -ℤ y)
within-sub {x = x} {y = y} v w = record { within = omega (arith, v.within, w.within, size-sub x y) }

pub within-mul : {m n : ℕ} {x y : ℤ} → Within m x → Within n y → Within (m * n) (x *ℤ y)
within-mul {x = x} {y = y} v w = record { within = rw (size-mul x y) (mul-le-mul v.within w.within) }

pub within_quot : {n : ℕ} {x : ℤ} (y : ℤ) → Within n x → Within n (quot_z x y)
within_quot {x = x} y w = record { within = le_trans (size_quot x y) w.within }
