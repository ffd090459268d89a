-- Rule 11.7: the outputs of a call that has several, as one value; and what the candidate call hands back.
use Rattle.std.specs.Prelude.{◌≡◌, List, ℕ}
use Rattle.golay.specs.Answers.{Answer}
use Rattle.hard.specs.Answers.{Finding, Correction}
use Rattle.candidates.specs.Calls.{WritesCandidates}
use Rattle.hands.specs.Hands.{returned}

abbrev pub finding : ℕ → ℕ → Finding
finding pattern distance = record { pattern = pattern; distance = distance }

abbrev pub correction : ℕ → ℕ → Correction
correction codeword distance = record { codeword = codeword; distance = distance }

-- Rules 5.7, 5.8 and 11.5: the candidate call's status, and what the slots hold
pub record HandsBackCandidates (word : ℕ) (before after : List ℕ) (status : ℕ) : Type 0 where
  pub answer : Answer (Unit {0})
  pub writes : WritesCandidates word before answer after
  pub status_is : status ≡ returned answer
