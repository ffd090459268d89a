-- A signed local holds the bits of its value: when a value fits its width, when the bits read back as it, and what a test of two locals
-- says.
use mathlib.Core.Path.{◌≡◌, refl}
use mathlib.Core.Bool.{true, false}
use Prim.Native.Nat.{ℕ, ◌+◌, ◌≤◌, ◌<◌, ◌^◌}
use native.Mathlib.Omega.{arith}
use lib.Dec.{lit<}
use lib.IntN.{ℤ, pos, negsuc, neg_ℤ, ◌+ℤ◌, ◌-ℤ◌, +ℤ_idl}
use lib.Signed.{mag, lt_z, le_z, nat_abs-le, ◌≤ℤ◌, ◌<ℤ◌}
use mir.Syntax.{Width, w64}
use mir.Val.{SFits, hbits, to_z, of_z}
use mir.Facts.{to_z-of_z, to_z_pos}
use Rattle.signed.specs.Sign.{sign, hi, lo}
use Rattle.signed.specs.Within.{Within}
use Rattle.signed.proofs.Parts.{size-parts, lt_true, lt_false, le_true, le_false, ints, parts}
use Rattle.signed.proofs.Bounds.{within-neg, within-add, within-sub}

-- ---- what a width holds

mag_below : (z : ℤ) (h : ℕ) → hi z < h → lo z ≤ h → mag z < h
mag_below (pos n) h a b = a
mag_below (negsuc n) h a b = b

pub parts_fit : {w : Width} {z : ℤ} → hi z < 2 ^ hbits w → lo z ≤ 2 ^ hbits w → SFits w z
parts_fit {w} {z} a b = record { sfits = mag_below z (2 ^ hbits w) a b }

mag_lo : (z : ℤ) (h : ℕ) → mag z < h → lo z ≤ h
mag_lo (pos n) h a = omega arith
mag_lo (negsuc n) h a = a

pub fit_lo : {w : Width} {z : ℤ} → SFits w z → lo z ≤ 2 ^ hbits w
fit_lo {w} {z} f = mag_lo z (2 ^ hbits w) f.sfits

pub within_of : {w : Width} {z : ℤ} → SFits w z → Within (2 ^ hbits w) z
within_of {z = z} f = record { within = nat_abs-le z f.sfits }

-- at a literal bound the last argument is `lit< tt`, else `omega arith`
pub fits : {w : Width} {n : ℕ} {z : ℤ} → Within n z → n < 2 ^ hbits w → SFits w z
fits {w} {n} {z} b h = parts_fit (omega (arith, size-parts z, b.within)) (omega (arith, size-parts z, b.within))

pub lowest : {z : ℤ} → SFits w64 z → negsuc 9223372036854775807 ≤ℤ z
lowest {z} f = omega (ints, fit_lo f)

-- ---- reading back what an `i64` holds, as a need has it

pub reads : {n : ℕ} {z : ℤ} → Within n z → n < 2 ^ 63 → to_z w64 (of_z w64 z) ≡ z
reads {z = z} b h = to_z-of_z {w = w64} (fits b h)

zero_sub : (z : ℤ) → pos 0 -ℤ z ≡ neg_ℤ z
zero_sub z = +ℤ_idl (neg_ℤ z)

module _ {m n : ℕ} {x y : ℤ} (v : Within m x) (w : Within n y) (l : m + n < 2 ^ 63) where
  pub sum_fits : SFits w64 (to_z w64 (of_z w64 x) +ℤ to_z w64 (of_z w64 y))
  sum_fits = rw (reads v (omega arith), reads w (omega arith)) (fits (within-add v w) l)

  pub sum_reads : to_z w64 (of_z w64 (to_z w64 (of_z w64 x) +ℤ to_z w64 (of_z w64 y))) ≡ x +ℤ y
  sum_reads = rw (reads v (omega arith), reads w (omega arith), reads (within-add v w) l)

  pub diff_fits : SFits w64 (to_z w64 (of_z w64 x) -ℤ to_z w64 (of_z w64 y))
  diff_fits = rw (reads v (omega arith), reads w (omega arith)) (fits (within-sub v w) l)

  pub diff_reads : to_z w64 (of_z w64 (to_z w64 (of_z w64 x) -ℤ to_z w64 (of_z w64 y))) ≡ x -ℤ y
  diff_reads = rw (reads v (omega arith), reads w (omega arith), reads (within-sub v w) l)

module _ {n : ℕ} {z : ℤ} (w : Within n z) (l : n < 2 ^ 63) where
  pub neg-fits : SFits w64 (pos 0 -ℤ to_z w64 (of_z w64 z))
  neg-fits = rw (reads w l, zero_sub) (fits (within-neg w) l)

  pub neg_reads : to_z w64 (of_z w64 (pos 0 -ℤ to_z w64 (of_z w64 z))) ≡ neg_ℤ z
  neg_reads = rw (reads w l, zero_sub, reads (within-neg w) l)

-- two unsigned numbers cast to `i64`, and their difference: it always fits
module _ (a b : ℕ) (ha : a < 2 ^ 63) (hb : b < 2 ^ 63) where
  cast_within : Within 9223372036854775807 (pos a -ℤ pos b)
  cast_within = record { within = simp parts (omega arith) }

  pub cast_diff_fits : SFits w64 (to_z w64 a -ℤ to_z w64 b)
  cast_diff_fits = rw (to_z_pos w64 {n = a} ha, to_z_pos w64 {n = b} hb) (fits cast_within (lit< tt))

  pub cast_diff_reads : to_z w64 (of_z w64 (to_z w64 a -ℤ to_z w64 b)) ≡ pos a -ℤ pos b
  cast_diff_reads = rw (to_z_pos w64 {n = a} ha, to_z_pos w64 {n = b} hb) (reads cast_within (lit< tt))

-- ---- a test of two locals, passed (`-taken`) or failed (`-left`); a literal fits by `sfits_lit tt`

module _ {w : Width} {x y : ℤ} (f : SFits w x) (g : SFits w y) where
  pub lt_taken : lt_z (to_z w (of_z w x)) (to_z w (of_z w y)) ≡ true → x <ℤ y
  lt_taken e = lt_true x y (rw (to_z-of_z f, to_z-of_z g) at e)

  pub lt_left : lt_z (to_z w (of_z w x)) (to_z w (of_z w y)) ≡ false → y ≤ℤ x
  lt_left e = lt_false x y (rw (to_z-of_z f, to_z-of_z g) at e)

  pub le_taken : le_z (to_z w (of_z w x)) (to_z w (of_z w y)) ≡ true → x ≤ℤ y
  le_taken e = le_true x y (rw (to_z-of_z f, to_z-of_z g) at e)

  pub le_left : le_z (to_z w (of_z w x)) (to_z w (of_z w y)) ≡ false → y <ℤ x
  le_left e = le_false x y (rw (to_z-of_z f, to_z-of_z g) at e)

-- ---- the sign, by a test against zero

pub sign_below : {z : ℤ} → z <ℤ pos 0 → sign z ≡ true
sign_below {z = pos n} h = absurd (omega ints)
sign_below {z = negsuc n} h = refl

pub sign_above : {z : ℤ} → pos 0 ≤ℤ z → sign z ≡ false
sign_above {z = pos n} h = refl
sign_above {z = negsuc n} h = absurd (omega ints)
