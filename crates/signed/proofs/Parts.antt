-- Whole numbers with a sign for `omega`: z is `hi z` less `lo z`, one of which is 0, and each operation and order of ℤ is a linear fact of
-- these parts.
use mathlib.Core.Path.{◌≡◌, refl, sym, ap, subst}
use mathlib.Core.Logic.{◌⊎◌, inl, inr}
use mathlib.Core.Bool.{Bool, true, false, not, cond}
use Prim.Native.Nat.{ℕ, zero, suc, min, ◌+◌, ◌-◌, ◌*◌, ◌≤◌, ◌<◌}
use native.Mathlib.Omega.{arith}
use native.Mathlib.Decide.{dec_le}
use lib.Dec.{T, ltb, ltb→lt, nltb→le, leb→le, nleb→lt, le→leb, lt→ltb}
use lib.IntN.{ℤ, pos, negsuc, neg_ℤ, nat_abs, sub_ℕ, ◌+ℤ◌, ◌-ℤ◌, ◌*ℤ◌}
use lib.Signed.{lt_z, le_z, le_z_yes, lt_z_yes, lt_z_no, ◌≤ℤ◌, ◌<ℤ◌}
use Rattle.signed.specs.Sign.{hi, lo}

pub one_part : (z : ℤ) → min (hi z) (lo z) ≡ 0
one_part (pos n) = omega arith
one_part (negsuc n) = omega arith

-- ---- operations

pub size-parts : (z : ℤ) → nat_abs z ≡ hi z + lo z
size-parts (pos n) = omega arith
size-parts (negsuc n) = omega arith

pub hi-neg : (z : ℤ) → hi (neg_ℤ z) ≡ lo z
hi-neg (pos zero) = refl
hi-neg (pos (suc n)) = refl
hi-neg (negsuc n) = refl

pub lo-neg : (z : ℤ) → lo (neg_ℤ z) ≡ hi z
lo-neg (pos zero) = refl
lo-neg (pos (suc n)) = refl
lo-neg (negsuc n) = refl

subℕ_parts : (a b : ℕ) → hi (sub_ℕ a b) + b ≡ lo (sub_ℕ a b) + a
subℕ_parts a b = go (ltb a b) (ltb→lt a b) (nltb→le a b)
  where
    go : (t : Bool) → (T t → a < b) → (T (not t) → b ≤ a)
        → hi (cond t (negsuc (b - suc a)) (pos (a - b))) + b ≡ lo (cond t (negsuc (b - suc a)) (pos (a - b))) + a
    go true f g = let h : a < b = f tt in omega arith
    go false f g = let h : b ≤ a = g tt in omega arith

pub add_parts : (x y : ℤ) → hi (x +ℤ y) + (lo x + lo y) ≡ lo (x +ℤ y) + (hi x + hi y)
add_parts (pos a) (pos b) = omega arith
add_parts (pos a) (negsuc b) = omega (arith, subℕ_parts a (suc b))
add_parts (negsuc a) (pos b) = omega (arith, subℕ_parts b (suc a))
add_parts (negsuc a) (negsuc b) = omega arith

pub sub_parts : (x y : ℤ) → hi (x -ℤ y) + (lo x + hi y) ≡ lo (x -ℤ y) + (hi x + lo y)
sub_parts x y = omega (arith, add_parts x (neg_ℤ y), hi-neg y, lo-neg y)

-- a sum's parts outright, at the price of a case split each
pub hi-add : (x y : ℤ) → hi (x +ℤ y) ≡ hi x + hi y - (lo x + lo y)
hi-add x y = omega (arith, add_parts x y, one_part (x +ℤ y))

pub lo-add : (x y : ℤ) → lo (x +ℤ y) ≡ lo x + lo y - (hi x + hi y)
lo-add x y = omega (arith, add_parts x y, one_part (x +ℤ y))

pub hi_double : (z : ℤ) → hi (pos 2 *ℤ z) ≡ 2 * hi z
hi_double (pos n) = refl
hi_double (negsuc n) = hi-neg (pos (2 * suc n))

pub lo_double : (z : ℤ) → lo (pos 2 *ℤ z) ≡ 2 * lo z
lo_double (pos n) = refl
lo_double (negsuc n) = lo-neg (pos (2 * suc n))

-- ---- orders and equations

pub le_parts : {x y : ℤ} → x ≤ℤ y → hi x + lo y ≤ hi y + lo x
le_parts {x = pos a} {y = pos b} h = omega (arith, leb→le a b h.le)
le_parts {x = pos a} {y = negsuc b} h = absurd h.le
le_parts {x = negsuc a} {y = pos b} h = omega arith
le_parts {x = negsuc a} {y = negsuc b} h = omega (arith, leb→le b a h.le)

pub lt_parts : {x y : ℤ} → x <ℤ y → hi x + lo y < hi y + lo x
lt_parts {x = pos a} {y = pos b} h = omega (arith, ltb→lt a b h.lt)
lt_parts {x = pos a} {y = negsuc b} h = absurd h.lt
lt_parts {x = negsuc a} {y = pos b} h = omega arith
lt_parts {x = negsuc a} {y = negsuc b} h = omega (arith, ltb→lt b a h.lt)

pub eq_parts : {x y : ℤ} → x ≡ y → hi x + lo y ≡ hi y + lo x
eq_parts e = omega (arith, ap (λ z. hi z) e, ap (λ z. lo z) e)

pub parts_le : (x y : ℤ) → hi x + lo y ≤ hi y + lo x → x ≤ℤ y
parts_le (pos a) (pos b) h = le_z_yes (le→leb a b (omega arith))
parts_le (pos a) (negsuc b) h = absurd (omega arith)
parts_le (negsuc a) (pos b) h = le_z_yes tt
parts_le (negsuc a) (negsuc b) h = le_z_yes (le→leb b a (omega arith))

pub parts_lt : (x y : ℤ) → hi x + lo y < hi y + lo x → x <ℤ y
parts_lt (pos a) (pos b) h = lt_z_yes (lt→ltb a b (omega arith))
parts_lt (pos a) (negsuc b) h = absurd (omega arith)
parts_lt (negsuc a) (pos b) h = lt_z_yes tt
parts_lt (negsuc a) (negsuc b) h = lt_z_yes (lt→ltb b a (omega arith))

pub parts_eq : (x y : ℤ) → hi x + lo y ≡ hi y + lo x → x ≡ y
parts_eq (pos a) (pos b) h = ap pos (omega arith)
parts_eq (pos a) (negsuc b) h = absurd (omega arith)
parts_eq (negsuc a) (pos b) h = absurd (omega arith)
parts_eq (negsuc a) (negsuc b) h = ap negsuc (omega arith)

pub le_or_lt : (x y : ℤ) → (x ≤ℤ y) ⊎ (y <ℤ x)
le_or_lt x y = go (dec_le (hi x + lo y) (hi y + lo x))
  where
    go : Dec (hi x + lo y ≤ hi y + lo x) → (x ≤ℤ y) ⊎ (y <ℤ x)
    go (yes h) = inl (parts_le x y h)
    go (no h) = inr (parts_lt y x (omega arith))

-- ---- the flag of a test

pub lt_true : (x y : ℤ) → lt_z x y ≡ true → x <ℤ y
lt_true x y e = lt_z_yes (subst T (sym e) tt)

pub lt_false : (x y : ℤ) → lt_z x y ≡ false → y ≤ℤ x
lt_false x y e = lt_z_no (subst (λ (t : Bool). T (not t)) (sym e) tt)

pub le_true : (x y : ℤ) → le_z x y ≡ true → x ≤ℤ y
le_true x y e = le_z_yes (subst T (sym e) tt)

not_le : (x y : ℤ) → T (not (le_z x y)) → y <ℤ x
not_le (pos a) (pos b) t = parts_lt (pos b) (pos a) (omega (arith, nleb→lt a b t))
not_le (pos a) (negsuc b) t = lt_z_yes tt
not_le (negsuc a) (pos b) t = absurd t
not_le (negsuc a) (negsuc b) t = parts_lt (negsuc b) (negsuc a) (omega (arith, nleb→lt b a t))

pub le_false : (x y : ℤ) → le_z x y ≡ false → y <ℤ x
le_false x y e = not_le x y (subst (λ (t : Bool). T (not t)) (sym e) tt)

-- `omega ints` reads and proves orders and equations of ℤ; `simp parts (omega arith)` also takes a few operations out of its way
pub ruleset ints = (arith, le_parts, lt_parts, eq_parts, parts_le, parts_lt, parts_eq)

pub ruleset parts = (hi-add, lo-add, hi-neg, lo-neg, size-parts, hi_double, lo_double)
