-- What a call for C hands back: its status tells an answer from a refusal, it follows from what the call below answered, and two returns that a
-- promise allows are equal.
-- Assumes nothing.
use mathlib.Core.Path.{◌≡◌, refl, sym, ◌∙◌}
use Prim.Native.Nat.{ℕ, ◌<◌}
use Rattle.std.proofs.Common.{rules}
use Rattle.golay.specs.declared.kinds.Refusal.{Refusal}
use Rattle.golay.specs.Refusals.{number}
use Rattle.std.specs.Prelude.{Result}
use Rattle.golay.specs.Answers.{Answer, accepted, refused, answer_of}
use Rattle.hands.specs.Hands.{returned, HandsBack, HandsBackOne, itself}

-- no refusal has the number 0
number_above_zero : (reason : Refusal) → 0 < number reason
number_above_zero reason = search rules

-- Rule 11.7: a call that answers returns 0, and one that refuses its refusal's number, which is above 0
module _ {A M : Type 0} {made : A → M} {before after : M} {status : ℕ} where
  pub answered_returns_zero : {x : A} → HandsBack (accepted x) made before after status → status ≡ 0
  answered_returns_zero p = p.status_is

  pub refused_returns_number : (reason : Refusal) → HandsBack (refused (number reason)) made before after status → status ≡ number reason
  refused_returns_number reason p = p.status_is

  pub refused_above_zero : (reason : Refusal) → HandsBack (refused (number reason)) made before after status → 0 < status
  refused_above_zero reason p = rw (refused_returns_number reason p) (number_above_zero reason)

-- from what the call below answered
module _ {A M : Type 0} {answer : Answer A} {made : A → M} {before : M} where
  pub hands_value : {x : A} → accepted x ≡ answer → HandsBack answer made before (made x) 0
  hands_value e = rw (← e) (record { status_is = refl; output-is = refl })

  pub hands_refusal : {n : ℕ} → refused n ≡ answer → HandsBack answer made before before n
  hands_refusal e = rw (← e) (record { status_is = refl; output-is = refl })

-- two returns that a promise allows are equal, and so is what they leave
pub hands_decided :
    {A M : Type 0} {answer : Answer A} {made : A → M} {before after later : M} {status other : ℕ}
    → HandsBack answer made before after status
    → HandsBack answer made before later other
    → (status ≡ other) × (after ≡ later)
hands_decided p q = (p.status_is ∙ sym q.status_is, p.output-is ∙ sym q.output-is)

-- and where the answer is one that a relation allows, if that allows one alone
pub hands_one_decided :
    {A M : Type 0} {Allowed : Answer A → Type 0} {made : A → M} {before after later : M} {status other : ℕ}
    → ((a b : Answer A) → Allowed a → Allowed b → a ≡ b)
    → HandsBackOne Allowed made before after status
    → HandsBackOne Allowed made before later other
    → (status ≡ other) × (after ≡ later)
hands_one_decided once p q =
    let e = once p.answer q.answer p.allowed q.allowed in
    hands_decided (rw e at p.handed) q.handed

-- ---- the two functions that hand an answer to C

module _ {A : Type 0} (r : Result A Refusal) where
  pub status-decided : (s other : ℕ) → s ≡ returned (answer_of itself r) → other ≡ returned (answer_of itself r) → s ≡ other
  status-decided s other p q = p ∙ sym q

  pub hand_back-decided :
      {before after later : A} {s other : ℕ}
      → HandsBack (answer_of itself r) itself before after s
      → HandsBack (answer_of itself r) itself before later other
      → (s ≡ other) × (after ≡ later)
  hand_back-decided p q = hands_decided p q
