-- The two least losses over the words of one parity, as far as a reading has come.
use Rattle.std.specs.Prelude.{◌≡◌, ◌≢◌, ◌⊎◌, Bool, true, false, List, ℕ, ◌+◌, ◌≤◌, ◌<◌, ℤ, length}
use Rattle.contest.specs.Words.{differ, odd}
use Rattle.contest.specs.Losses.{loss}

-- the word ts loses c, and its parity differs from q by d
pub record At (fs : List ℤ) (q d : Bool) (c : ℕ) (ts : List Bool) : Type 0 where
  pub long : length ts ≡ length fs
  pub parity : differ (odd ts) q ≡ d
  pub costs : loss ts fs ≡ c

-- what any word loses, by whether its parity differs from that of h
abbrev pub Claim : List ℤ → ℕ → ℕ → List Bool → List Bool → Bool → List Bool → Type 0
Claim fs a b h o false ts = (ts ≡ h) ⊎ (a + b ≤ loss ts fs)
Claim fs a b h o true ts = ((ts ≡ o) × (a ≤ loss ts fs)) ⊎ (b ≤ loss ts fs)

-- h loses nothing. Of the words of the other parity o loses the least, a, and the next b; of those of h's parity the next after h loses a +
-- b. An a or a b of M is not there yet.
pub record State (M : ℕ) (fs : List ℤ) (a b : ℕ) (h o : List Bool) : Type 0 where
  pub order : a ≤ b
  pub top : b ≤ M
  pub some : 1 ≤ length fs → a < M
  pub full : 2 ≤ length fs → b < M
  pub hard : At fs (odd h) false 0 h
  pub one : a < M → At fs (odd h) true a o
  pub second : List Bool
  pub two : b < M → At fs (odd h) true b second
  pub two-other : b < M → second ≢ o
  pub pair : List Bool
  pub both : b < M → At fs (odd h) false (a + b) pair
  pub both-other : b < M → pair ≢ h
  pub all : (ts : List Bool) → length ts ≡ length fs → Claim fs a b h o (differ (odd ts) (odd h)) ts
