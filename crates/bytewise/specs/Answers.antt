-- Rules 11.5 and 15.5: the answers of the calls that write and read bytes, and what lent memory holds after a call.
use Rattle.std.specs.Prelude.{ℕ, Result}
use Rattle.golay.specs.declared.kinds.Refusal.{Refusal}
use Rattle.golay.specs.declared.kinds.Codeword.{Codeword}
use Rattle.golay.specs.Answers.{Answer, accepted, refused, answer_of}

-- Rule 11.5: what lent memory holds after the call: on a refusal, what it held before
abbrev pub lent : {A M : Type 0} → Answer A → M → M → M
lent (accepted x) before after = after
lent (refused n) before after = before

-- Rule 15.5, accepted with no value: what was written shows in the buffer
abbrev pub write_bytes_answer : Result (Unit {0}) Refusal → Answer (Unit {0})
write_bytes_answer r = answer_of (λ u. u) r

-- Rule 15.5: the codeword, or the number
abbrev pub read_bytes_answer : Result Codeword Refusal → Answer ℕ
read_bytes_answer r = answer_of (λ codeword. codeword.0) r
