-- Rules 7.1, 7.2 and 7.4: what a reading is answered by, in a family of N words.
use Rattle.std.specs.Prelude.{◌≡◌, ◌≢◌, Bool, List, ℕ, ◌*◌, ◌<◌, ℤ, pos, ◌-ℤ◌, ◌<ℤ◌}
use Rattle.contest.specs.Readings.{scores}
use Rattle.contest.specs.Largest.{Largest, Next}

-- Rules 7.1 and 7.2: word m has a larger correlation than each other, and it exceeds the largest that any other has by twice the reserve ρ
pub record Accepted (N : ℕ) (word : ℕ → List Bool) (xs : List ℤ) (m ρ : ℕ) : Type 0 where
  pub known : m < N
  pub only : (k : ℕ) → k < N → k ≢ m → scores word xs k <ℤ scores word xs m
  pub runner : ℕ
  pub next : Next (scores word xs) 0 N m runner
  pub half : scores word xs m -ℤ scores word xs runner ≡ pos (2 * ρ)

-- Rule 7.4: two words that are not the same have the largest correlation
pub record Tied (N : ℕ) (word : ℕ → List Bool) (xs : List ℤ) : Type 0 where
  pub one : ℕ
  pub other : ℕ
  pub different : one ≢ other
  pub one-largest : Largest (scores word xs) 0 N one
  pub other-largest : Largest (scores word xs) 0 N other

-- an accepted word, by its number, with its reserve; or a tie
pub data Answer : Type 0 where
  accepted : ℕ → ℕ → Answer
  tied : Answer

-- Rules 7.1 and 7.4: what an answer says of a reading
abbrev pub Answers : ℕ → (ℕ → List Bool) → List ℤ → Answer → Type 0
Answers N word xs (accepted m ρ) = Accepted N word xs m ρ
Answers N word xs tied = Tied N word xs
