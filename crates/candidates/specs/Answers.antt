-- Rule 15.5: the answer of the candidate call, by the number of a refusal.
use Rattle.std.specs.Prelude.{Result}
use Rattle.golay.specs.declared.kinds.Refusal.{Refusal}
use Rattle.golay.specs.Answers.{Answer, answer_of}

-- Rule 15.5, accepted with no value: what was written shows in the slots
abbrev pub candidates_answer : Result (Unit {0}) Refusal → Answer (Unit {0})
candidates_answer r = answer_of (λ nothing. nothing) r
