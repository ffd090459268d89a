-- Rule 15.5: the answers of the calls, by their values or the number of a refusal.
use Rattle.std.specs.Prelude.{ℕ, Result}
use Rattle.golay.specs.declared.kinds.Refusal.{Refusal}
use Rattle.golay.specs.Answers.{Answer, answer_of}
use Rattle.hard.specs.declared.kinds.Found.{Found}
use Rattle.hard.specs.declared.kinds.Corrected.{Corrected}

-- Rule 5.10: the error pattern of a word's syndrome, and how far the word is from the code
pub record Finding : Type 0 where
  pub pattern : ℕ
  pub distance : ℕ

-- Rule 5.5: the nearest codeword, and how far the word is from it
pub record Correction : Type 0 where
  pub codeword : ℕ
  pub distance : ℕ

-- Rule 15.5: pattern and distance, or the number
abbrev pub find_answer : Result Found Refusal → Answer Finding
find_answer r = answer_of (λ found. record { pattern = found.pattern.0; distance = found.distance }) r

-- Rule 15.5: a word, or the number
abbrev pub apply_answer : Result ℕ Refusal → Answer ℕ
apply_answer r = answer_of (λ word. word) r

-- Rule 15.5: codeword and distance, or the number
abbrev pub correct_answer : Result Corrected Refusal → Answer Correction
correct_answer r = answer_of (λ c. record { codeword = c.codeword.0; distance = c.distance }) r
