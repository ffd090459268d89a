-- Rules 2.2, 3.1 to 3.5 and 4.1: which words are codewords, how a message is encoded, what a codeword's message is, and the syndrome of any
-- word.
use Rattle.std.specs.Prelude.{Bool, true, false, ◌&&◌, List, [], ◌∷◌, ◌++◌, map, ℕ, ◌+◌, ◌*◌, ◌/◌, ◌%◌, ◌^◌, eqb, replicate}
use Rattle.code.specs.Characters.{◌⊕◌, fourth, fifth, sixth, hexacodeword}
use Rattle.code.specs.Array.{column, columns, bit, joined, total, parity, top_row, projection, interpreted}

-- Rule 3.1: a message is a number below this
abbrev pub messages : ℕ
messages = 4096

-- Rules 1.1 and 6.1: the positions of a word, and the confidences of a reading
abbrev pub positions : ℕ
positions = 24

-- Rule 1.2: a word is a number below this
abbrev pub words : ℕ
words = 16777216

-- Rule 4.1: a syndrome is a number below this
abbrev pub syndromes : ℕ
syndromes = 4096

-- whether two lists are equal
abbrev pub same : List ℕ → List ℕ → Bool
same [] [] = true
same [] (y ∷ ys) = false
same (x ∷ xs) [] = false
same (x ∷ xs) (y ∷ ys) = eqb x y && same xs ys

-- Rule 2.2: the columns have one parity, the top row has it too, and the projections are the hexacodeword of the first three of them
unfoldable pub is_codeword : ℕ → Bool
is_codeword word =
    same (map parity (columns word)) (replicate 6 (parity (column 1 word)))
    && eqb (top_row word) (parity (column 1 word))
    && same (map projection (columns word)) (hexacodeword (projection (column 1 word)) (projection (column 2 word)) (projection (column 3 word)))

-- Rule 3.2: bit k of a message
abbrev pub bit_of : ℕ → ℕ → ℕ
bit_of k m = m / 2 ^ k % 2

-- Rule 3.2: the character whose number is in the bits k+1 and k
abbrev pub character_of : ℕ → ℕ → ℕ
character_of k m = m / 2 ^ k % 4

-- Rule 3.2: bits 4 to 0, a top bit each for the first five columns
abbrev pub top_bits : ℕ → List ℕ
top_bits m = bit_of 4 m ∷ bit_of 3 m ∷ bit_of 2 m ∷ bit_of 1 m ∷ bit_of 0 m ∷ []

-- Rule 3.3: and column 6's, which brings the top row's parity to p, bit 11
abbrev pub six_top_bits : ℕ → List ℕ
six_top_bits m = top_bits m ++ ((bit_of 11 m + total (top_bits m)) % 2 ∷ [])

-- Rule 3.4: the codeword of a message, column by column of p, the hexacodeword of a, b and c, and the six top bits
unfoldable pub codeword_of : ℕ → ℕ
codeword_of m =
    joined (interpreted (bit_of 11 m) (hexacodeword (character_of 9 m) (character_of 7 m) (character_of 5 m)) (six_top_bits m))

-- Rule 3.5: the message of a codeword: the parity, the three characters and the five top bits, put back in their places (3.2)
unfoldable pub message_of : ℕ → ℕ
message_of word =
    (((((((parity (column 1 word) * 4 + projection (column 1 word)) * 4 + projection (column 2 word)) * 4 + projection (column 3 word)) * 2
    + bit 1 (column 1 word)) * 2 + bit 1 (column 2 word)) * 2 + bit 1 (column 3 word)) * 2 + bit 1 (column 4 word)) * 2
    + bit 1 (column 5 word)

-- Rule 4.1's bits, from the highest down: the parities and the top row's against p1, then x4, x5 and x6 against what rule 2.1 makes of the
-- first three projections, here a, b and c
abbrev pub syndrome_bits : (p1 p2 p3 p4 p5 p6 top a b c x4 x5 x6 : ℕ) → ℕ
syndrome_bits p1 p2 p3 p4 p5 p6 top a b c x4 x5 x6 =
    ((((((((p2 ⊕ p1) * 2 + (p3 ⊕ p1)) * 2 + (p4 ⊕ p1)) * 2 + (p5 ⊕ p1)) * 2 + (p6 ⊕ p1)) * 2 + (top ⊕ p1)) * 4
    + (x4 ⊕ fourth a b c)) * 4 + (x5 ⊕ fifth a b c)) * 4 + (x6 ⊕ sixth a b c)

-- Rule 4.1: the syndrome of a word
unfoldable pub syndrome_of : ℕ → ℕ
syndrome_of word =
    syndrome_bits
    (parity (column 1 word))
    (parity (column 2 word))
    (parity (column 3 word))
    (parity (column 4 word))
    (parity (column 5 word))
    (parity (column 6 word))
    (top_row word)
    (projection (column 1 word))
    (projection (column 2 word))
    (projection (column 3 word))
    (projection (column 4 word))
    (projection (column 5 word))
    (projection (column 6 word))
