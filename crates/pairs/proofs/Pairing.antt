-- How large the pairs of codes get, by any rule for two codes.
use mathlib.Core.Path.{◌≡◌}
use mathlib.Core.List.{List}
use Prim.Native.Nat.{ℕ, ◌+◌, ◌*◌, ◌≤◌, ◌<◌}
use native.Mathlib.Omega.{arith}
use native.Mathlib.Decide.{dec_le}
use lib.ListN.{length, get_or, get_or-eq_default}
use Rattle.pairs.specs.Pairs.{widest, first_of, second_of, Pairs}

-- past the end of a list there are zeros
pub padded : {l : ℕ} (n : ℕ) (s : List ℕ) → length s ≡ l → ((j : ℕ) → j < l → get_or s j 0 ≤ n) → (j : ℕ) → get_or s j 0 ≤ n
padded {l} n s e h j = go (dec_le l j)
  where
    go : Dec (l ≤ j) → get_or s j 0 ≤ n
    go (yes g) = let b : length s ≤ j = omega arith in rw (get_or-eq_default s 0 b) (omega arith)
    go (no g) = h j (omega arith)

-- by a rule that gives no more than both
pub pairs_within : {f : ℕ → ℕ → ℕ} → ((x y : ℕ) → f x y ≤ x + y) → {e r : List ℕ} → ((j : ℕ) → get_or e j 0 ≤ widest) → Pairs f e r
    → (j : ℕ) → get_or r j 0 ≤ 2 * widest
pairs_within under {e} {r} w F =
    padded (2 * widest) r F.long
    (λ j h. omega (arith, (F.places j h).value, under (get_or e (first_of j) 0) (get_or e (second_of j) 0), w (first_of j), w (second_of j)))
