-- A list that is filled place by place.
use Rattle.std.specs.Prelude.{◌≡◌, List, ℕ, ◌<◌, length, get_or}

-- the first n places of s, which has l, are right
pub record Filled {A : Type 0} (default : A) (Right : ℕ → A → Type 0) (n l : ℕ) (s : List A) : Type 0 where
  pub long : length s ≡ l
  pub places : (j : ℕ) → j < n → Right j (get_or s j default)
