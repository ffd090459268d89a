-- Rules 10.3 and 12.1: bytes as a number.
use Rattle.std.specs.Prelude.{List, [], ◌∷◌, ℕ, ◌+◌, ◌*◌, ◌^◌, length}

-- Rule 10.3: the word that bytes hold, the first byte most significant
abbrev pub word_of : List ℕ → ℕ
word_of [] = 0
word_of (byte ∷ bytes) = byte * 256 ^ length bytes + word_of bytes
