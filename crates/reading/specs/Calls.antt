-- Rule 11.3: with what refusals each call of a reading begins, in the order of rule 11.2.
use Rattle.std.specs.Prelude.{List, ℤ, Result}
use Rattle.code.specs.Code.{positions}
use Rattle.golay.specs.declared.kinds.Refusal.{Refusal}
use Rattle.golay.specs.declared.kinds.Refusal.TheVariants.{WrongLength, MostNegative}
use Rattle.golay.specs.Answers.{Answer, accepted, refuse, answer_of}
use Rattle.golay.specs.Calls.{wrong_length}
use Rattle.reading.specs.Checks.{most_negative}

-- Rule 15.5: an answer without values
abbrev pub check_answer : Result (Unit {0}) Refusal → Answer (Unit {0})
check_answer r = answer_of (λ u. u) r

-- Rule 11.1: 1, then 2, or nothing
unfoldable pub check_rule : List ℤ → Answer (Unit {0})
check_rule xs = refuse WrongLength (wrong_length positions xs) (refuse MostNegative (most_negative xs) (accepted tt))
