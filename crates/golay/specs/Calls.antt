-- Rule 11.3: what each call answers, for every input, its refusals in the order of rule 11.2.
use Rattle.std.specs.Prelude.{Bool, not, ◌||◌, List, ℕ, leb, eqb, length}
use Rattle.binary.specs.Words.{distance}
use Rattle.code.specs.Code.{messages, words, is_codeword, codeword_of, message_of, syndrome_of}
use Rattle.golay.specs.declared.kinds.Refusal.TheVariants.{MessageAbove, WordAbove, NotCodeword}
use Rattle.golay.specs.Answers.{Answer, accepted, refuse}

-- Rule 11.1, number 3: a message exceeds 4,095
abbrev pub message_above : ℕ → Bool
message_above m = leb messages m

-- Rule 11.1, number 4: a word exceeds 16,777,215
abbrev pub word_above : ℕ → Bool
word_above word = leb words word

-- Rule 11.1, number 1: lent memory has other than n places
abbrev pub wrong_length : {A : Type 0} → ℕ → List A → Bool
wrong_length n lent = not (eqb (length lent) n)

-- Rule 11.3, encode: 3, or the codeword (3.4)
unfoldable pub encode_rule : ℕ → Answer ℕ
encode_rule m = refuse MessageAbove (message_above m) (accepted (codeword_of m))

-- Rule 11.3, read: 4, then 5, or the message (3.5)
unfoldable pub read_rule : ℕ → Answer ℕ
read_rule word = refuse WordAbove (word_above word) (refuse NotCodeword (not (is_codeword word)) (accepted (message_of word)))

-- Rule 11.3, syndrome: 4, or the syndrome (4.1)
unfoldable pub syndrome_rule : ℕ → Answer ℕ
syndrome_rule word = refuse WordAbove (word_above word) (accepted (syndrome_of word))

-- Rule 11.3, distance: 4 for either word, or the distance (5.1)
unfoldable pub distance_rule : ℕ → ℕ → Answer ℕ
distance_rule a b = refuse WordAbove (word_above a || word_above b) (accepted (distance 24 a b))
