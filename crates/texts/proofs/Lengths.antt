-- How long a line is: the sum of its parts.
-- Assumes nothing.
use mathlib.Core.Path.{◌≡◌}
use mathlib.Core.List.{List}
use Prim.Native.Nat.{ℕ, ◌+◌}
use lib.ListN.{length, length-append}
use Rattle.texts.specs.Texts.{decimal, line_of, line_of_two}

pub length-one : (word : List ℕ) (n : ℕ) (end : List ℕ) → length (line_of word n end) ≡ length word + length (decimal n) + length end
length-one word n end = simp length-append

pub length_two :
    (word : List ℕ) (m : ℕ) (between : List ℕ) (n : ℕ) (end : List ℕ)
    → length (line_of_two word m between n end) ≡ length word + length (decimal m) + length between + length (decimal n) + length end
length_two word m between n end = simp length-append
