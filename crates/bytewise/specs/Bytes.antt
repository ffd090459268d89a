-- Rule 10.1: a word as three bytes.
use Rattle.std.specs.Prelude.{List, [], ◌∷◌, ℕ, ◌/◌, ◌%◌, ◌^◌}

-- Rule 10.1: positions 1 to 8, 9 to 16, 17 to 24
abbrev pub bytes_of : ℕ → List ℕ
bytes_of word = word / 2 ^ 16 % 256 ∷ word / 2 ^ 8 % 256 ∷ word % 256 ∷ []
