-- Rules 9.3 to 9.5: what a word is decided for by a reading, after source document 003, over hard correction.
use Rattle.std.specs.Prelude.{◌≡◌, ◌≢◌, Bool, true, false, List, ℕ, ◌≤◌, ◌<◌, ℤ, pos, neg_ℤ, get_or, Option, Some, None}
use Rattle.std.specs.Int.Bits.{bit_xor}
use Rattle.golay.specs.declared.kinds.Codeword.{Codeword}
use Rattle.golay.specs.declared.kinds.Refusal.TheVariants.{Tied}
use Rattle.golay.specs.Refusals.{number}
use Rattle.golay.specs.Answers.{Answer, accepted, refused}
use Rattle.hard.specs.Answers.{Correction}
use Rattle.hard.specs.Calls.{Corrects}
use Rattle.candidates.specs.Candidates.{Candidate}
use Rattle.signs.specs.Signs.{cost}

-- Rules 9.7 and 15.5: a codeword, or the number for a tied word
abbrev pub decision_answer : Option Codeword → Answer ℕ
decision_answer (Some codeword) = accepted codeword.0
decision_answer None = refused (number Tied)

-- Rule 9.4: what a candidate costs, by the positions where it departs from the word
abbrev pub cost_of : ℕ → List ℤ → ℕ → ℕ
cost_of word xs c = cost (bit_xor word c) xs

-- the costs of candidates in slots, negated: the cheapest has the largest
abbrev pub merits : ℕ → List ℤ → List ℕ → ℕ → ℤ
merits word xs slots k = neg_ℤ (pos (cost_of word xs (get_or slots k 0)))

-- Rule 9.4: the candidate whose cost is below that of all others
pub record Cheapest (word : ℕ) (xs : List ℤ) (c : ℕ) : Type 0 where
  pub candidate : Candidate word c
  pub cheaper : (d : ℕ) → Candidate word d → d ≢ c → cost_of word xs c < cost_of word xs d

-- Rule 9.5: two candidates have the least cost
pub record TwoCheapest (word : ℕ) (xs : List ℤ) : Type 0 where
  pub one : ℕ
  pub other : ℕ
  pub candidate : Candidate word one
  pub candidate-other : Candidate word other
  pub different : one ≢ other
  pub equal : cost_of word xs one ≡ cost_of word xs other
  pub least : (d : ℕ) → Candidate word d → cost_of word xs one ≤ cost_of word xs d

-- Rules 9.4 and 9.5: what a word at distance 4 is decided for
pub data Chosen (word : ℕ) (xs : List ℤ) : Answer ℕ → Type 0 where
  alone : {c : ℕ} → Cheapest word xs c → Chosen word xs (accepted c)
  shared : TwoCheapest word xs → Chosen word xs (refused (number Tied))

-- Rule 9.3: what correction makes of the word. Where it refuses the word, rule 9.4: a candidate is chosen.
abbrev pub Follows : ℕ → List ℤ → Answer Correction → Answer ℕ → Type 0
Follows word xs (accepted c) answer = answer ≡ accepted c.codeword
Follows word xs (refused n) answer = Chosen word xs answer

-- Rules 9.3 to 9.5: what a word is decided for, or 6 where it is tied
pub record Decides (word : ℕ) (xs : List ℤ) (answer : Answer ℕ) : Type 0 where
  pub correction : Answer Correction
  pub corrects : Corrects word correction
  pub follows : Follows word xs correction answer

-- whether a word is decided for c
pub record Gives (c word : ℕ) (xs : List ℤ) (r : Bool) : Type 0 where
  pub gives : r ≡ true → Decides word xs (accepted c)
  pub gives-not : r ≡ false → Decides word xs (accepted c) → ⊥
