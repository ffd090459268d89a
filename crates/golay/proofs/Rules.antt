-- Each call's rule, taken apart: what it answers where its tests are known.
-- Assumes nothing.
use mathlib.Core.Path.{◌≡◌}
use mathlib.Core.Bool.{true, false}
use Prim.Native.Nat.{ℕ, ◌≤◌, ◌<◌}
use borrow.Author.Tests.{le-leb, lt-leb}
use Rattle.binary.specs.Words.{distance}
use Rattle.code.specs.Code.{messages, words, is_codeword, codeword_of, message_of, syndrome_of}
use Rattle.golay.specs.Answers.{accepted, refused}
use Rattle.golay.specs.Calls.{encode_rule, read_rule, syndrome_rule, distance_rule}

module _ (m : ℕ) where
  pub encode_above : messages ≤ m → encode_rule m ≡ refused 3
  unfolding encode_rule
  encode_above h = simp (le-leb messages m h)

  pub encode-within : m < messages → encode_rule m ≡ accepted (codeword_of m)
  unfolding encode_rule
  encode-within h = simp (lt-leb messages m h)

module _ (word : ℕ) where
  pub read_above : words ≤ word → read_rule word ≡ refused 4
  unfolding read_rule
  read_above h = simp (le-leb words word h)

  pub read_outside : word < words → is_codeword word ≡ false → read_rule word ≡ refused 5
  unfolding read_rule
  read_outside h e = simp (lt-leb words word h, e)

  pub read_inside : word < words → is_codeword word ≡ true → read_rule word ≡ accepted (message_of word)
  unfolding read_rule
  read_inside h e = simp (lt-leb words word h, e)

  pub syndrome_above : words ≤ word → syndrome_rule word ≡ refused 4
  unfolding syndrome_rule
  syndrome_above h = simp (le-leb words word h)

  pub syndrome-within : word < words → syndrome_rule word ≡ accepted (syndrome_of word)
  unfolding syndrome_rule
  syndrome-within h = simp (lt-leb words word h)

module _ (a b : ℕ) where
  pub distance-first : words ≤ a → distance_rule a b ≡ refused 4
  unfolding distance_rule
  distance-first h = simp (le-leb words a h)

  pub distance-second : a < words → words ≤ b → distance_rule a b ≡ refused 4
  unfolding distance_rule
  distance-second g h = simp (lt-leb words a g, le-leb words b h)

  pub distance-within : a < words → b < words → distance_rule a b ≡ accepted (distance 24 a b)
  unfolding distance_rule
  distance-within g h = simp (lt-leb words a g, lt-leb words b h)
