-- Rules 17.1 and 17.2: a receiver's buffer, and the reading with a number as a part of it.
use Rattle.std.specs.Prelude.{◌≡◌, Bool, cond, ◌&&◌, List, [], ℕ, ◌+◌, ◌*◌, ◌/◌, ◌%◌, eqb, ltb, ℤ, length, take, drop}
use Rattle.std.specs.Borrow.{Bor}
use Rattle.code.specs.Code.{positions}

-- Rule 17.2: the buffer is whole, and has a reading with this number
unfoldable pub has_reading : List ℤ → ℕ → Bool
has_reading buffer number = eqb (length buffer % positions) 0 && ltb number (length buffer / positions)

-- Rule 17.1: the reading with this number; nothing where the buffer holds none
unfoldable pub reading_at : List ℤ → ℕ → List ℤ
reading_at buffer number = cond (has_reading buffer number) (take positions (drop (positions * number) buffer)) []

-- Rule 15.9: where in memory the reading with this number begins, for a buffer that begins at an offset of a block. A confidence takes four bytes.
abbrev pub place_at : ℕ × ℕ → ℕ → ℕ × ℕ
place_at (block, offset) number = (block, positions * number * 4 + offset)

-- Rules 15.9 and 17.1: a part of a lent buffer: what it holds, and where it begins, so that it is no copy
pub record LendsReading (buffer : Bor (List ℤ)) (number : ℕ) (part : Bor (List ℤ)) : Type 0 where
  pub contents : part.now ≡ reading_at buffer.now number
  pub begins : part.ref_ptr ≡ cond (has_reading buffer.now number) (place_at buffer.ref_ptr number) buffer.ref_ptr
