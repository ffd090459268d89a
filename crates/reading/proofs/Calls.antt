-- The refusals with which each call of a reading begins, taken apart: of what they refuse, and of what they let pass, a rule that begins with
-- them says the same.
-- Assumes nothing.
use mathlib.Core.Path.{◌≡◌, refl, sym}
use mathlib.Core.Bool.{Bool, true, false}
use mathlib.Core.List.{List}
use Prim.Native.Nat.{ℕ}
use lib.IntN.{ℤ}
use lib.ListN.{length}
use borrow.Author.Tests.{eqb-true, not-false}
use lib.Dec.{eqb}
use Rattle.code.specs.Code.{positions}
use Rattle.golay.specs.declared.kinds.Refusal.TheVariants.{WrongLength, MostNegative}
use Rattle.golay.specs.Answers.{Answer, accepted, refused, refuse, Refuse}
use Rattle.golay.specs.Calls.{wrong_length}
use Rattle.reading.specs.Checks.{most_negative}
use Rattle.reading.specs.Calls.{check_rule}

abbrev Nothing : Type 0
Nothing = Unit {0}

refused_alike : {A : Type 0} {n k : ℕ} → ◌≡◌ {A = Answer Nothing} (refused n) (refused k) → ◌≡◌ {A = Answer A} (refused n) (refused k)
refused_alike e = cc

never : {A : Type 0} {n : ℕ} {P : Type 0} {x : A} → refused n ≡ accepted x → P
never e = cc

module _ (xs : List ℤ) where
  module _ {A : Type 0} {n : ℕ} (e : refused n ≡ check_rule xs) where
    -- what is refused here is refused there
    pub refused_begins : (next : Answer A) → refused n ≡ refuse WrongLength (wrong_length positions xs) (refuse MostNegative (most_negative xs) next)
    unfolding check_rule
    refused_begins next = go (wrong_length positions xs) (most_negative xs) e
      where
        go : (w m : Bool) → refused n ≡ refuse WrongLength w (refuse MostNegative m (accepted (tt {0}))) → refused n ≡ refuse WrongLength w (refuse MostNegative m next)
        go true m e = refused_alike e
        go false true e = refused_alike e
        go false false e = never e

    pub refused_begins_one : (Next : Answer A → Type 0) → Refuse WrongLength (wrong_length positions xs) (Refuse MostNegative (most_negative xs) Next) (refused n)
    unfolding check_rule
    refused_begins_one Next = go (wrong_length positions xs) (most_negative xs) e
      where
        go : (w m : Bool) → refused n ≡ refuse WrongLength w (refuse MostNegative m (accepted (tt {0}))) → Refuse WrongLength w (Refuse MostNegative m Next) (refused n)
        go true m e = refused_alike e
        go false true e = refused_alike e
        go false false e = never e

  -- what passes has its length, and no most negative number
  pub passed : accepted (tt {0}) ≡ check_rule xs → (length xs ≡ 24) × (most_negative xs ≡ false)
  unfolding check_rule
  passed e = go (wrong_length positions xs) (most_negative xs) refl refl e
    where
      go :
          (w m : Bool)
          → wrong_length positions xs ≡ w
          → most_negative xs ≡ m
          → accepted (tt {0}) ≡ refuse WrongLength w (refuse MostNegative m (accepted (tt {0})))
          → (length xs ≡ 24) × (most_negative xs ≡ false)
      go true m p q e = never (sym e)
      go false true p q e = never (sym e)
      go false false p q e = (eqb-true (length xs) 24 (not-false (eqb (length xs) 24) p), q)
