-- Rules 11.5 and 11.7: a call returns 0 where it answers, else the refusal's number, and writes its outputs only where it answers.
use Rattle.std.specs.Prelude.{◌≡◌, ℕ}
use Rattle.golay.specs.Answers.{Answer, accepted, refused}

module _ {A : Type 0} where
  -- Rule 11.7: 0 for an answer, which is no refusal's number, else the refusal's
  abbrev pub returned : Answer A → ℕ
  returned (accepted x) = 0
  returned (refused n) = n

  -- Rule 11.5: what an output holds afterwards: what the values make of it, or what it held before
  abbrev pub output : {M : Type 0} → (A → M) → Answer A → M → M
  output made (accepted x) before = made x
  output made (refused n) before = before

-- what a call returned, and what its outputs held before and hold after it
pub record HandsBack {A M : Type 0} (answer : Answer A) (made : A → M) (before after : M) (status : ℕ) : Type 0 where
  pub status_is : status ≡ returned answer
  pub output-is : after ≡ output made answer before

-- where a promise allows an answer, and not a formula gives it: the call hands back an answer that is allowed
pub record HandsBackOne {A M : Type 0} (Allowed : Answer A → Type 0) (made : A → M) (before after : M) (status : ℕ) : Type 0 where
  pub answer : Answer A
  pub allowed : Allowed answer
  pub handed : HandsBack answer made before after status

-- outputs that hold the values as they are
abbrev pub itself : {A : Type 0} → A → A
itself x = x
