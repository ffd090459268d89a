-- Two choices that a promise allows are equal, and so are two parts: each reading has one answer of the soft decoder.
use mathlib.Core.Path.{◌≡◌, sym, ap, ap₂, ◌∙◌}
use mathlib.Core.Bool.{cond}
use mathlib.Core.List.{List}
use Prim.Native.Nat.{ℕ}
use lib.IntN.{ℤ}
use denote.Ref.{Bor}
use Rattle.golay.specs.Answers.{Answer}
use Rattle.buffers.specs.Buffers.{reading_at}
use Rattle.soft.specs.declared.kinds.Soft.{Soft}
use Rattle.soft.specs.Calls.{SoftRule}
use Rattle.soft.proofs.Decided.{soft-once}
use Rattle.choices.specs.declared.kinds.Choice.{Choice}
use Rattle.choices.specs.Choices.{receiver, reserve_of, preferred}
use Rattle.choices.proofs.Decided.{receiver-once}
use Rattle.receivers.specs.Calls.{both_have, Chooses, part_of, Better, begins_at, LendsBetter}

-- the choice, by whichever answers the soft decoder's promise allows
pub choice_by :
    {first second : List ℤ} {number choice : ℕ} (a b : Answer Soft)
    → Chooses first second number choice
    → SoftRule (reading_at first number) a
    → SoftRule (reading_at second number) b
    → choice ≡ cond (both_have first second number) (preferred (reserve_of a) (reserve_of b)) 0
choice_by {first} {second} {number} a b p r s =
    p.is
    ∙ ap₂ (λ (x y : Answer Soft). cond (both_have first second number) (preferred (reserve_of x) (reserve_of y)) 0)
    (soft-once (reading_at first number) p.one a p.one-allowed r)
    (soft-once (reading_at second number) p.other b p.other-allowed s)

module _ {first second : List ℤ} {number : ℕ} where
  pub choice-once : {c d : ℕ} → Chooses first second number c → Chooses first second number d → c ≡ d
  choice-once p q = choice_by q.one q.other p q.one-allowed q.other-allowed ∙ sym q.is

  pub better-once : {part other : List ℤ} → Better first second number part → Better first second number other → part ≡ other
  better-once p q = p.is ∙ ap (part_of first second number) (choice-once p.chooses q.chooses) ∙ sym q.is

-- what the part holds, and where it begins
pub better-decided :
    {first second part other : Bor (List ℤ)} {number : ℕ}
    → LendsBetter first second number part
    → LendsBetter first second number other
    → (part.now ≡ other.now) × (part.ref_ptr ≡ other.ref_ptr)
better-decided {first} {second} {number = number} p q = (
  better-once p.better q.better,
  p.begins
      ∙ ap (begins_at first.ref_ptr second.ref_ptr number) (choice-once p.better.chooses q.better.chooses)
      ∙ sym q.begins,
)

-- of the call's own answer
pub choice-decided : (first second : List ℤ) (number : ℕ) (x y : Choice)
    → Chooses first second number (receiver x) → Chooses first second number (receiver y) → x ≡ y
choice-decided first second number x y p q = receiver-once x y (choice-once p q)
