-- Rule 12.9: how a capture that comes in pieces is run through, turn by turn, whatever is told of its records.
use Rattle.std.specs.Prelude.{◌≡◌, true, false, List, [], ◌∷◌, ◌++◌, Option, ℕ, ◌-◌, ◌≤◌, length, take, drop}
use Rattle.records.specs.Capture.{Telling, run_from}
use Rattle.texts.specs.Buffers.{put}

-- what there is from a place up to an end: both lie within the bytes that are held
pub record Within (from end held : ℕ) : Type 0 where
  pub ordered : from ≤ end
  pub there : end ≤ held

-- the bytes from a place up to an end stand in front of what is held, and how many they are; where they are not there nothing is moved, and all
-- up to the end are left
pub record Keeps (from end : ℕ) (held kept : List ℕ) (r : ℕ) : Type 0 where
  pub there : Within from end (length held) → (kept ≡ put (drop from (take end held)) held 0) × (r ≡ end - from)
  pub missing : (Within from end (length held) → ⊥) → (kept ≡ held) × (r ≡ end)

-- the pieces in one
abbrev pub all_pieces : List (List ℕ) → List ℕ
all_pieces [] = []
all_pieces (piece ∷ pieces) = piece ++ all_pieces pieces

module _ {A : Type 0} (t : Telling A) where
  -- a run that goes on where it ends, from its state there
  abbrev pub going_on : (Option ℕ → ℕ → A) → Telling A
  going_on on = record { at_end = on; at_stop = t.at_stop; at_record = t.at_record }

  -- all turns: each over what the one before left and the piece that a read brought; where it ends, the next goes on. At the end of the input,
  -- the run over what is left
  unfoldable pub turns_from : Option ℕ → ℕ → List ℕ → List (List ℕ) → A
  turns_from previous offset held [] = run_from t true previous offset held
  turns_from previous offset held (piece ∷ pieces) =
      let bytes = held ++ piece in
      run_from (going_on (λ number next. turns_from number next (drop (next - offset) bytes) pieces)) false previous offset bytes
