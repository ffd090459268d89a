-- Rule 5.2 at one syndrome, 040: the six words of one full column have it. The largest of them is no pattern. And rule 5.9 at some numbers:
-- worked ones, and three that make the right word but are not stored so.
-- Assumes nothing.
use mathlib.Core.Path.{◌≡◌, refl}
use mathlib.Core.Logic.{⊎_elim}
use Prim.Native.Nat.{ℕ, ◌≤◌}
use native.Mathlib.Omega.{arith}
use lib.Dec.{lit<}
use Rattle.binary.specs.Words.{ones}
use Rattle.code.specs.Code.{syndrome_of}
use Rattle.patterns.specs.Patterns.{IsPattern}
use Rattle.patterns.specs.Positions.{spread, fields, held, Stored}

pub largest_no_pattern : IsPattern 0x040 0xF00000 → ⊥
unfolding syndrome_of ones
largest_no_pattern p = let l : 0xF00000 ≤ 0x00000F = p.smallest 0x00000F (lit< tt) refl refl in omega arith

-- Rule 16.9: no position, position 21, and the positions 21 to 24
pub worked-fields :
    ((spread (fields 4 0xFFFFF) ≡ 0x000000) × (held 4 0xFFFFF ≡ 0))
    × (((spread (fields 4 0xAFFFF) ≡ 0x000008) × (held 4 0xAFFFF ≡ 1)) × ((spread (fields 4 0xADAF8) ≡ 0x00000F) × (held 4 0xADAF8 ≡ 4)))
worked-fields = ((refl, refl), ((refl, refl), (refl, refl)))

module _ (s : ℕ) where
  -- 20, 18, 16, 15
  pub descending_not_stored : Stored s 0xA4A0F → ⊥
  descending_not_stored r = ⊎_elim (λ n. omega (arith, n.0)) (λ e. omega arith) r.order.1.0

  -- 31, 31, 22, 23
  pub none-first-not_stored : Stored s 0xFFED7 → ⊥
  none-first-not_stored r = ⊎_elim (λ n. omega (arith, n.0)) (λ e. omega arith) r.order.1.1.0

  -- 22, 23, 30, 30
  pub thirty_not_stored : Stored s 0xB5FDE → ⊥
  thirty_not_stored r = ⊎_elim (λ n. omega (arith, n.1)) (λ e. omega arith) r.order.1.1.0
