-- Rule 12.9: a turn over the bytes that are held.
use Rattle.std.specs.Prelude.{◌≡◌, false, List, ℕ, ◌+◌, ◌≤◌, length, take, Option}
use Rattle.pieces.specs.Pieces.{Keeps}
use Rattle.run.specs.Runs.{Room, Runs, unrun}
use Rattle.turns.specs.declared.kinds.Turned.{Turned}

-- one turn over the first bytes that are held, which more may follow: the run over them; then what it did not come through is kept, from its
-- own offset on
pub record Turns (previous : Option ℕ) (offset count : ℕ) (held before after kept : List ℕ) (r : Turned) : Type 0 where
  pub ran : Runs false previous offset (take count held) before after r.outcome
  pub keeps : Keeps r.outcome.through count held kept r.left
  pub next : r.next ≡ offset + r.outcome.through

-- room for a turn: the bytes are there, and their text has room
pub record TurnRoom (offset count held buffer : ℕ) : Type 0 where
  pub bytes : count ≤ held
  pub text : Room offset count buffer

-- a turn over any bytes: without room nothing is written or moved, and all of them are left
pub record TurnRule (previous : Option ℕ) (offset count : ℕ) (held before after kept : List ℕ) (r : Turned) : Type 0 where
  pub room : TurnRoom offset count (length held) (length before) → Turns previous offset count held before after kept r
  pub none : (TurnRoom offset count (length held) (length before) → ⊥)
      → (after ≡ before) × (kept ≡ held) × (r ≡ record { outcome = unrun previous; left = count; next = offset })
