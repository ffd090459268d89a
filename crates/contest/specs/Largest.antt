-- The largest of numbered values, and the largest of the rest.
use Rattle.std.specs.Prelude.{◌≡◌, ◌≢◌, ℕ, ◌≤◌, ◌<◌, ℤ, ◌≤ℤ◌}

-- Rules 7.4 and 8.2: of the values from i up to j, none is larger than the one at m
pub record Largest (f : ℕ → ℤ) (i j m : ℕ) : Type 0 where
  pub from : i ≤ m
  pub below : m < j
  pub most : (k : ℕ) → i ≤ k → k < j → f k ≤ℤ f m

-- Rule 7.2: and of those that do not stand at m, none is larger than the one at r
pub record Next (f : ℕ → ℤ) (i j m r : ℕ) : Type 0 where
  pub from : i ≤ r
  pub below : r < j
  pub other : r ≢ m
  pub most : (k : ℕ) → i ≤ k → k < j → k ≢ m → f k ≤ℤ f r

-- the two largest values from i up to j, b and s, where b stands at m
pub record Best (f : ℕ → ℤ) (i j : ℕ) (b s : ℤ) (m : ℕ) : Type 0 where
  pub largest : Largest f i j m
  pub runner : ℕ
  pub next : Next f i j m runner
  pub best : b ≡ f m
  pub second : s ≡ f runner
