-- Rules 11.2, 11.4 and 15.5: an answer of any call is values, or the number of a refusal. Each call's own answer is read as one here.
use Rattle.std.specs.Prelude.{◌≡◌, Bool, true, false, ℕ, Result, Ok, Err}
use Rattle.golay.specs.declared.kinds.Refusal.{Refusal}
use Rattle.golay.specs.declared.kinds.Codeword.{Codeword}
use Rattle.golay.specs.declared.kinds.Message.{Message}
use Rattle.golay.specs.declared.kinds.Syndrome.{Syndrome}
use Rattle.golay.specs.Refusals.{number}

-- Rule 11.4: values, or a number and no value beside it
pub data Answer (A : Type 0) : Type 0 where
  accepted : A → Answer A
  refused : ℕ → Answer A

module _ {A : Type 0} where
  -- Rule 11.2: where the test holds, the refusal; else what comes next. The order of the tests is the order of the refusals.
  abbrev pub refuse : Refusal → Bool → Answer A → Answer A
  refuse reason true next = refused (number reason)
  refuse reason false next = next

  -- the same where what comes next is not a formula but says which answers it allows
  abbrev pub Refuse : Refusal → Bool → (Answer A → Type 0) → Answer A → Type 0
  Refuse reason true Next answer = answer ≡ refused (number reason)
  Refuse reason false Next answer = Next answer

-- Rule 15.5: what a call's result says, by its values or its number; `values` takes the values out of the call's kind
abbrev pub answer_of : {T A : Type 0} → (T → A) → Result T Refusal → Answer A
answer_of values (Ok x) = accepted (values x)
answer_of values (Err reason) = refused (number reason)

-- the answers of the calls
abbrev pub encode_answer : Result Codeword Refusal → Answer ℕ
encode_answer r = answer_of (λ codeword. codeword.0) r

abbrev pub read_answer : Result Message Refusal → Answer ℕ
read_answer r = answer_of (λ message. message.0) r

abbrev pub syndrome_answer : Result Syndrome Refusal → Answer ℕ
syndrome_answer r = answer_of (λ s. s.0) r

abbrev pub distance_answer : Result ℕ Refusal → Answer ℕ
distance_answer r = answer_of (λ d. d) r
