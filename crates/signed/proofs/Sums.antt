-- Sums of many terms: written once as an expression, a sum has two parts that compute to plain sums of the terms' parts, so that `omega
-- arith` proves an equation or an order of such sums with no case split.
use mathlib.Core.Path.{◌≡◌}
use Prim.Native.Nat.{ℕ, ◌+◌, ◌≤◌, ◌<◌}
use native.Mathlib.Omega.{arith}
use lib.IntN.{ℤ, pos, neg_ℤ, ◌+ℤ◌, ◌-ℤ◌}
use lib.Signed.{◌≤ℤ◌, ◌<ℤ◌}
use Rattle.signed.specs.Sign.{hi, lo}
use Rattle.signed.proofs.Parts.{hi-neg, lo-neg, add_parts, sub_parts, ints}

infixl 6 ◌⊕◌ ◌⊖◌
pub data Sum : Type 0 where
  at : ℤ → Sum
  num : ℕ → Sum
  ◌⊕◌ : Sum → Sum → Sum
  ◌⊖◌ : Sum → Sum → Sum
  opposite : Sum → Sum

abbrev pub value : Sum → ℤ
value (at z) = z
value (num n) = pos n
value (e ⊕ f) = value e +ℤ value f
value (e ⊖ f) = value e -ℤ value f
value (opposite e) = neg_ℤ (value e)

abbrev mutual
  pub plus : Sum → ℕ
  plus (at z) = hi z
  plus (num n) = n
  plus (e ⊕ f) = plus e + plus f
  plus (e ⊖ f) = plus e + minus f
  plus (opposite e) = minus e

  pub minus : Sum → ℕ
  minus (at z) = lo z
  minus (num n) = 0
  minus (e ⊕ f) = minus e + minus f
  minus (e ⊖ f) = minus e + plus f
  minus (opposite e) = plus e

pub value-parts : (e : Sum) → hi (value e) + minus e ≡ lo (value e) + plus e
value-parts (at z) = omega arith
value-parts (num n) = omega arith
value-parts (e ⊕ f) = omega (arith, add_parts (value e) (value f), value-parts e, value-parts f)
value-parts (e ⊖ f) = omega (arith, sub_parts (value e) (value f), value-parts e, value-parts f)
value-parts (opposite e) = omega (arith, hi-neg (value e), lo-neg (value e), value-parts e)

pub by_eq : (e f : Sum) → plus e + minus f ≡ plus f + minus e → value e ≡ value f
by_eq e f h = omega (ints, value-parts e, value-parts f)

pub by_le : (e f : Sum) → plus e + minus f ≤ plus f + minus e → value e ≤ℤ value f
by_le e f h = omega (ints, value-parts e, value-parts f)

pub by_lt : (e f : Sum) → plus e + minus f < plus f + minus e → value e <ℤ value f
by_lt e f h = omega (ints, value-parts e, value-parts f)
