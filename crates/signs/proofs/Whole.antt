-- A slice of the right length is a reading, and of any other nothing is taken.
-- Assumes nothing.
use mathlib.Core.Path.{◌≡◌}
use mathlib.Core.List.{List, []}
use Prim.Native.Nat.{ℕ, ◌≤◌}
use native.Mathlib.Omega.{arith}
use native.Mathlib.Decide.{ℕ_discrete}
use lib.IntN.{ℤ}
use lib.ListN.{length}
use borrow.Author.Tests.{eq-eqb, ne_eqb}
use Rattle.signs.specs.Signs.{whole}

module _ (n : ℕ) (xs : List ℤ) where
  pub whole-itself : length xs ≡ n → whole n xs ≡ xs
  whole-itself l = simp (eq-eqb (length xs) n l)

  pub whole-none : (length xs ≡ n → ⊥) → whole n xs ≡ []
  whole-none l = simp (ne_eqb (length xs) n l)

  pub whole-short : length (whole n xs) ≤ n
  whole-short = go (ℕ_discrete (length xs) n)
    where
      go : Dec (length xs ≡ n) → length (whole n xs) ≤ n
      go (yes l) = rw (whole-itself l) (omega (arith, l))
      go (no l) = rw (whole-none l) (omega arith)
