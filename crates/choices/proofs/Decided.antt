-- A choice is made again from its number, so two choices with one number are equal; and so are two that the promise of `larger_reserve` allows.
use mathlib.Core.Path.{◌≡◌, refl}
use mathlib.Core.Bool.{cond}
use Prim.Native.Nat.{ℕ}
use lib.Dec.{eqb}
use Rattle.golay.specs.Answers.{Answer}
use Rattle.golay.proofs.Decided.{said_once}
use Rattle.soft.specs.declared.kinds.Soft.{Soft}
use Rattle.choices.specs.declared.kinds.Choice.{Choice}
use Rattle.choices.specs.declared.kinds.Choice.TheVariants.{First, Second, Neither}
use Rattle.choices.specs.Choices.{receiver, reserve_of, preferred}

again : ℕ → Choice
again n = cond (eqb n 1) First (cond (eqb n 2) Second Neither)

back : (c : Choice) → again (receiver c) ≡ c
unfolding again
back First = refl
back Second = refl
back Neither = refl

pub receiver-once : (x y : Choice) → receiver x ≡ receiver y → x ≡ y
receiver-once x y e = said_once receiver again back x y e refl

pub preferred-decided : (a b : Answer Soft) (x y : Choice)
    → receiver x ≡ preferred (reserve_of a) (reserve_of b) → receiver y ≡ preferred (reserve_of a) (reserve_of b) → x ≡ y
preferred-decided a b = said_once receiver again back
