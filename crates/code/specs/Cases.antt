-- Rules 16.1 and 16.2: the worked encodings and syndromes, as one table.
use Rattle.std.specs.Prelude.{Bool, List, [], ◌∷◌, ℕ, eqb}
use Rattle.code.specs.Code.{codeword_of, syndrome_of}

-- a message and its codeword (16.1), or a word and its syndrome (16.2)
pub data Case : Type 0 where
  codeword : ℕ → ℕ → Case
  syndrome : ℕ → ℕ → Case

-- Rules 16.1 and 16.2: all of them
unfoldable pub cases : List Case
cases =
    codeword 0x000 0x000000 ∷ codeword 0x800 0x777778 ∷ codeword 0x400 0x500536 ∷ codeword 0x200 0x300365 ∷ codeword 0x080 0x030356
    ∷ codeword 0x020 0x003333 ∷ codeword 0x01F 0xFFFFFF ∷ syndrome 0x800000 0xF80 ∷ syndrome 0x400000 0xFDE ∷ syndrome 0x000008 0x0C0
    ∷ syndrome 0x000001 0x083 ∷ []

-- what a case says: its message has this codeword (3.4), or its word this syndrome (4.1)
abbrev pub holds : Case → Bool
holds (codeword m c) = eqb (codeword_of m) c
holds (syndrome word s) = eqb (syndrome_of word) s
