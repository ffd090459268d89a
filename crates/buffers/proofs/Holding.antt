-- What it is in numbers that a buffer holds a reading; what the reading's part is, and where it begins.
use mathlib.Core.Path.{◌≡◌}
use mathlib.Core.Logic.{◌≢◌}
use mathlib.Core.Bool.{Bool, true, false, cond, ◌&&◌}
use mathlib.Core.List.{List, []}
use Prim.Native.Nat.{ℕ, ◌+◌, ◌*◌, ◌/◌, ◌%◌, ◌≤◌, ◌<◌}
use native.Mathlib.Omega.{arith}
use lib.Dec.{eqb, ltb}
use lib.IntN.{ℤ}
use lib.ListN.{length}
use borrow.Author.Tests.{eq-eqb, ne_eqb, ltb-true}
use Rattle.code.specs.Code.{positions}
use Rattle.buffers.specs.Buffers.{has_reading, reading_at, place_at}

second_true : (a b : Bool) → (a && b) ≡ true → b ≡ true
second_true true b e = e
second_true false b e = cc

module _ (buffer : List ℤ) (number : ℕ) where
  pub whole_has : length buffer % positions ≡ 0 → has_reading buffer number ≡ ltb number (length buffer / positions)
  unfolding has_reading
  whole_has e = simp (eq-eqb (length buffer % 24) 0 e)

  pub not-whole : length buffer % positions ≢ 0 → has_reading buffer number ≡ false
  unfolding has_reading
  not-whole d = simp (ne_eqb (length buffer % 24) 0 d)

  module _ (e : has_reading buffer number ≡ true) where
    pub held_below : number < length buffer / positions
    unfolding has_reading
    held_below = ltb-true number (length buffer / positions) (second_true (eqb (length buffer % positions) 0) (ltb number (length buffer / positions)) e)

    pub held-room : 24 * number + 24 ≤ length buffer
    held-room = omega (arith, held_below)

    pub begins-held : (at : ℕ × ℕ) → cond (has_reading buffer number) (place_at at number) at ≡ place_at at number
    begins-held at = simp e

  module _ (e : has_reading buffer number ≡ false) where
    pub reading-none : reading_at buffer number ≡ []
    unfolding reading_at
    reading-none = simp e

    pub begins-none : (at : ℕ × ℕ) → cond (has_reading buffer number) (place_at at number) at ≡ at
    begins-none at = simp e
