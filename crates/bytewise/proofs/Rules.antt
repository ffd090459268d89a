-- Each call's rule, taken apart: what it answers where its tests are known.
-- Assumes nothing.
use mathlib.Core.Path.{◌≡◌}
use mathlib.Core.Bool.{true, false}
use mathlib.Core.List.{List}
use Prim.Native.Nat.{ℕ, ◌≤◌, ◌<◌}
use lib.ListN.{length}
use borrow.Author.Tests.{le-leb, lt-leb, eq-eqb, ne_eqb}
use Rattle.code.specs.Code.{words, is_codeword}
use Rattle.golay.specs.Answers.{accepted, refused}
use Rattle.golay.specs.Bytes.{word_of}
use Rattle.bytewise.specs.Calls.{write_bytes_rule, read_bytes_rule}

module _ (word : ℕ) (buffer : List ℕ) where
  pub write_length : (length buffer ≡ 3 → ⊥) → write_bytes_rule word buffer ≡ refused 1
  unfolding write_bytes_rule
  write_length l = simp (ne_eqb (length buffer) 3 l)

  module _ (l : length buffer ≡ 3) where
    pub write_above : words ≤ word → write_bytes_rule word buffer ≡ refused 4
    unfolding write_bytes_rule
    write_above h = simp (eq-eqb (length buffer) 3 l, le-leb words word h)

    pub write_outside : word < words → is_codeword word ≡ false → write_bytes_rule word buffer ≡ refused 5
    unfolding write_bytes_rule
    write_outside h e = simp (eq-eqb (length buffer) 3 l, lt-leb words word h, e)

    pub write_inside : word < words → is_codeword word ≡ true → write_bytes_rule word buffer ≡ accepted tt
    unfolding write_bytes_rule
    write_inside h e = simp (eq-eqb (length buffer) 3 l, lt-leb words word h, e)

module _ (bytes : List ℕ) where
  pub bytes-length : (length bytes ≡ 3 → ⊥) → read_bytes_rule bytes ≡ refused 1
  unfolding read_bytes_rule
  bytes-length l = simp (ne_eqb (length bytes) 3 l)

  pub bytes_outside : length bytes ≡ 3 → is_codeword (word_of bytes) ≡ false → read_bytes_rule bytes ≡ refused 5
  unfolding read_bytes_rule
  bytes_outside l e = simp (eq-eqb (length bytes) 3 l, e)

  pub bytes_inside : length bytes ≡ 3 → is_codeword (word_of bytes) ≡ true → read_bytes_rule bytes ≡ accepted (word_of bytes)
  unfolding read_bytes_rule
  bytes_inside l e = simp (eq-eqb (length bytes) 3 l, e)
