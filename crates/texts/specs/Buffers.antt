-- A text put into a lent buffer at a place: all of it or nothing, and every other byte keeps its contents.
use Rattle.std.specs.Prelude.{◌≡◌, Bool, cond, List, ◌++◌, ℕ, ◌+◌, ◌≤◌, leb, length, take, drop}

abbrev pub fits : List ℕ → List ℕ → ℕ → Bool
fits text buffer at = leb (at + length text) (length buffer)

-- the buffer with the text at the place
unfoldable pub put : List ℕ → List ℕ → ℕ → List ℕ
put text buffer at = take at buffer ++ text ++ drop (at + length text) buffer

-- a text that fits: the buffer afterwards, and the place after the text
pub record Puts (text before : List ℕ) (at : ℕ) (after : List ℕ) (next : ℕ) : Type 0 where
  pub room : at + length text ≤ length before
  pub buffer : after ≡ put text before at
  pub place : next ≡ at + length text

-- any text: where it does not fit, nothing changes, and the place is told again
pub record Writes (text before : List ℕ) (at : ℕ) (after : List ℕ) (next : ℕ) : Type 0 where
  pub buffer : after ≡ cond (fits text before at) (put text before at) before
  pub place : next ≡ cond (fits text before at) (at + length text) at
