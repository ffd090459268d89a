-- The characters of a class are below 4.
use mathlib.Core.List.{List, [], ◌∷◌}
use Prim.Native.Nat.{ℕ, zero, suc, ◌+◌, ◌*◌, ◌/◌, ◌%◌, ◌<◌}
use native.Mathlib.Omega.{arith}
use lib.Dec.{ltb, ltb→lt}
use lib.Bits.{bit_xor, xor_lt}
use lib.ListN.{get_or}
use Rattle.binary.proofs.Tests.{below}
use Rattle.code.specs.Characters.{◌⊗◌, w, v, products, fourth, fifth, sixth}
use Rattle.classes.specs.Classes.{characters_of}

-- numbers that are all below 4, and so is the one at any place
abbrev pub Small : List ℕ → Type 0
Small [] = Unit {0}
Small (x ∷ cs) = (x < 4) × Small cs

pub small_at : (cs : List ℕ) → Small cs → (j : ℕ) → get_or cs j 0 < 4
small_at [] s j = omega arith
small_at (x ∷ cs) s zero = s.0
small_at (x ∷ cs) s (suc j) = small_at cs s.1 j

product_small : (a b : ℕ) → a < 4 → b < 4 → a ⊗ b < 4
product_small a b ha hb = ltb→lt _ 4 (below (λ n. ltb (get_or products n 0) 4) 16 tt (a * 4 + b) (omega arith))

module _ (a b c : ℕ) (ha : a < 4) (hb : b < 4) (hc : c < 4) where
  pub fourth_small : fourth a b c < 4
  fourth_small = xor_lt 2 (bit_xor a b) c (xor_lt 2 a b ha hb) hc

  pub fifth_small : fifth a b c < 4
  fifth_small =
      xor_lt 2 (bit_xor (a ⊗ v) (b ⊗ w)) c (xor_lt 2 (a ⊗ v) (b ⊗ w) (product_small a v ha (omega arith)) (product_small b w hb (omega arith))) hc

  pub sixth_small : sixth a b c < 4
  sixth_small =
      xor_lt 2 (bit_xor (a ⊗ w) (b ⊗ v)) c (xor_lt 2 (a ⊗ w) (b ⊗ v) (product_small a w ha (omega arith)) (product_small b v hb (omega arith))) hc

pub characters_small : (k : ℕ) → Small (characters_of k)
unfolding characters_of
characters_small k =
    let a = k / 16 % 4 in
    let b = k / 4 % 4 in
    let c = k % 4 in
    let ha : a < 4 = omega arith in
    let hb : b < 4 = omega arith in
    let hc : c < 4 = omega arith in
    (sixth_small a b c ha hb hc, (fifth_small a b c ha hb hc, (fourth_small a b c ha hb hc, (hc, (hb, (ha, tt))))))
