-- Rule 11.3: what each call answers, for every input, its refusals in the order of rule 11.2. Finding and correction go by the word's error
-- pattern, whose ones are its distance from the code (5.4).
use Rattle.std.specs.Prelude.{◌≡◌, ◌||◌, ℕ, eqb}
use Rattle.std.specs.Int.Bits.{bit_xor}
use Rattle.binary.specs.Words.{ones}
use Rattle.code.specs.Code.{syndrome_of}
use Rattle.golay.specs.declared.kinds.Refusal.TheVariants.{WordAbove, DistanceFour}
use Rattle.golay.specs.Answers.{Answer, accepted, refuse}
use Rattle.golay.specs.Calls.{word_above}
use Rattle.patterns.specs.Patterns.{IsPattern}
use Rattle.hard.specs.Answers.{Finding, Correction}

-- Rule 5.10: 4, or the pattern and its ones
unfoldable pub find_rule : ℕ → ℕ → Answer Finding
find_rule word pattern = refuse WordAbove (word_above word) (accepted (record { pattern = pattern; distance = ones 24 pattern }))

-- Rule 11.3, find: by the error pattern (5.2) of the word's syndrome
pub record Finds (word : ℕ) (answer : Answer Finding) : Type 0 where
  pub pattern : ℕ
  pub rule : IsPattern (syndrome_of word) pattern
  pub answered : answer ≡ find_rule word pattern

-- Rules 5.11 and 11.3, apply: 4 for either, or their exclusive or
unfoldable pub apply_rule : ℕ → ℕ → Answer ℕ
apply_rule word pattern = refuse WordAbove (word_above word || word_above pattern) (accepted (bit_xor word pattern))

-- Rules 5.5 and 5.6: 4, then 7 where the distance is 4, or the exclusive or of word and pattern, and the distance
unfoldable pub correct_rule : ℕ → ℕ → Answer Correction
correct_rule word pattern =
    refuse WordAbove (word_above word)
    (refuse DistanceFour (eqb (ones 24 pattern) 4) (accepted (record { codeword = bit_xor word pattern; distance = ones 24 pattern })))

-- Rule 11.3, correct: by the error pattern (5.2) of the word's syndrome
pub record Corrects (word : ℕ) (answer : Answer Correction) : Type 0 where
  pub pattern : ℕ
  pub rule : IsPattern (syndrome_of word) pattern
  pub answered : answer ≡ correct_rule word pattern
