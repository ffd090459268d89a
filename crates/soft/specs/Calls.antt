-- Rule 11.3: what the soft calls answer, for every reading, their refusals in the order of rule 11.2.
use Rattle.std.specs.Prelude.{◌≡◌, List, ℕ, ◌+◌, ◌*◌, ℤ, pos}
use Rattle.contest.specs.Readings.{scores}
use Rattle.contest.specs.Largest.{Largest}
use Rattle.contest.specs.Answers.{Answers}
use Rattle.contest.specs.Answers as contest
use Rattle.code.specs.Code.{messages, positions, codeword_of}
use Rattle.golay.specs.declared.kinds.Refusal.TheVariants.{WrongLength, MostNegative, Tied, ClassAbove}
use Rattle.golay.specs.Refusals.{number}
use Rattle.golay.specs.Answers.{Answer, accepted, refused, Refuse}
use Rattle.golay.specs.Calls.{wrong_length}
use Rattle.reading.specs.Checks.{most_negative}
use Rattle.classes.specs.Codewords.{word}
use Rattle.classes.specs.Classes.{class_above}
use Rattle.soft.specs.declared.kinds.Soft.{Soft}

-- Rules 7.1 and 7.2: the codeword of message m with this message, its correlation and its reserve ρ
abbrev pub values : List ℤ → ℕ → ℕ → Soft
values xs m ρ = record {
  message = record { 0 = m };
  codeword = record { 0 = codeword_of m };
  correlation = scores word xs m;
  reserve = pos ρ;
}

-- Rules 7.1 and 7.4: the values, or refusal 6 where the reading is tied
abbrev pub told : List ℤ → contest.Answer → Answer Soft
told xs (contest.accepted m ρ) = accepted (values xs m ρ)
told xs contest.tied = refused (number Tied)

-- Rules 7.1 and 7.4: the answer to a valid reading is that of the contest of the 4,096 codewords
pub record Decides (xs : List ℤ) (answer : Answer Soft) : Type 0 where
  pub outcome : contest.Answer
  pub answers : Answers messages word xs outcome
  pub is : answer ≡ told xs outcome

-- Rule 11.3, soft: 1, then 2, or what the contest decides, 6 included
unfoldable pub SoftRule : List ℤ → Answer Soft → Type 0
SoftRule xs = Refuse WrongLength (wrong_length positions xs) (Refuse MostNegative (most_negative xs) (Decides xs))

-- Rules 8.1 and 8.2: the largest of 32 correlations, those of the codewords from message 32 k on
pub record HasFigure (xs : List ℤ) (k : ℕ) (answer : Answer ℤ) : Type 0 where
  pub message : ℕ
  pub largest : Largest (scores word xs) (k * 32) (k * 32 + 32) message
  pub is : answer ≡ accepted (scores word xs message)

-- Rule 11.3, class figure: 1, then 2, then 11, or the figure (8.2)
unfoldable pub ClassFigureRule : List ℤ → ℕ → Answer ℤ → Type 0
ClassFigureRule xs k =
    Refuse WrongLength (wrong_length positions xs) (Refuse MostNegative (most_negative xs) (Refuse ClassAbove (class_above k) (HasFigure xs k)))
