-- Rules 12.1 and 18.10: captures of whole records of either kind.
use Rattle.std.specs.Prelude.{◌≡◌, List, [], ◌∷◌, ◌++◌, ℕ, ◌*◌, ℤ, length}
use Rattle.code.specs.Code.{positions}
use Rattle.records.specs.Records.{confidences_of}

-- Rule 12.1: an old record, or a new one with the two bytes of its number
pub data Kind : Type 0 where
  old : Kind
  new : ℕ → ℕ → Kind

-- Rule 12.1: a record of a kind, by the bytes of its confidences
abbrev pub record_bytes : Kind → List ℕ → List ℕ
record_bytes old body = 0x49 ∷ 0x43 ∷ body
record_bytes (new a b) body = 0x49 ∷ 0x44 ∷ a ∷ b ∷ body

-- records, one after the other
unfoldable pub capture_of : List (Kind × List ℕ) → List ℕ
capture_of [] = []
capture_of (r ∷ rs) = record_bytes r.0 r.1 ++ capture_of rs

-- each has the bytes of 24 confidences
unfoldable pub Whole : List (Kind × List ℕ) → Type 0
Whole [] = Unit {0}
Whole (r ∷ rs) = (length r.1 ≡ positions * 4) × Whole rs

-- their readings
unfoldable pub readings_in : List (Kind × List ℕ) → List (List ℤ)
readings_in [] = []
readings_in (r ∷ rs) = confidences_of positions r.1 ∷ readings_in rs

-- records with the same confidences, each of whatever kind and number
unfoldable pub Alike : List (Kind × List ℕ) → List (Kind × List ℕ) → Type 0
Alike [] [] = Unit {0}
Alike (r ∷ rs) (s ∷ ss) = (r.1 ≡ s.1) × Alike rs ss
Alike [] (s ∷ ss) = ⊥
Alike (r ∷ rs) [] = ⊥
