-- A codeword's three bytes and the word that they hold undo each other.
-- Assumes nothing.
use mathlib.Core.Path.{◌≡◌}
use Prim.Native.Nat.{ℕ, ◌<◌}
use native.Mathlib.Omega.{arith}
use Rattle.code.specs.Code.{words}
use Rattle.golay.specs.Bytes.{word_of}
use Rattle.bytewise.specs.Bytes.{bytes_of}

-- the word comes back from its bytes
pub word_bytes : (word : ℕ) → word < words → word_of (bytes_of word) ≡ word
word_bytes word h = omega arith
