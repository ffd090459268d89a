-- Rule 11.3: what the candidate call answers, for every input, its refusals in the order of rule 11.2. It goes by the ones of the word's error
-- pattern, its distance from the code (5.4).
use Rattle.std.specs.Prelude.{◌≡◌, not, List, ℕ, eqb}
use Rattle.binary.specs.Words.{ones}
use Rattle.code.specs.Code.{syndrome_of}
use Rattle.golay.specs.declared.kinds.Refusal.TheVariants.{WrongLength, WordAbove, NotDistanceFour}
use Rattle.golay.specs.Answers.{Answer, accepted, refused, refuse}
use Rattle.golay.specs.Calls.{word_above, wrong_length}
use Rattle.patterns.specs.Patterns.{IsPattern}
use Rattle.candidates.specs.Candidates.{Candidates}

-- Rules 5.7 and 5.8: 1, then 4, then 8 where the distance is not 4, or no refusal
unfoldable pub candidates_rule : ℕ → ℕ → List ℕ → Answer (Unit {0})
candidates_rule word pattern slots =
    refuse WrongLength (wrong_length 6 slots)
    (refuse WordAbove (word_above word) (refuse NotDistanceFour (not (eqb (ones 24 pattern) 4)) (accepted tt)))

-- Rules 5.7 and 11.5: what the slots hold after the call: the candidates, or on a refusal what they held before
abbrev pub SlotsHold : {A : Type 0} → ℕ → Answer A → List ℕ → List ℕ → Type 0
SlotsHold word (accepted x) before after = Candidates word after
SlotsHold word (refused n) before after = after ≡ before

-- Rule 11.3, candidates: by the error pattern (5.2) of the word's syndrome
pub record WritesCandidates (word : ℕ) (before : List ℕ) (answer : Answer (Unit {0})) (after : List ℕ) : Type 0 where
  pub pattern : ℕ
  pub rule : IsPattern (syndrome_of word) pattern
  pub answered : answer ≡ candidates_rule word pattern before
  pub slots : SlotsHold word answer before after
