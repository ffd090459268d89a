-- The worked choices (16.10) hold, one by one over their table: the soft decoder's answer to each worked reading is known.
use mathlib.Core.Path.{◌≡◌, ap, ap₂, ◌∙◌}
use mathlib.Core.Bool.{cond}
use mathlib.Core.List.{List, [], ◌∷◌}
use Prim.Native.Nat.{ℕ}
use lib.Dec.{lit<, lit≤}
use lib.IntN.{ℤ, pos}
use Rattle.code.specs.Code.{codeword_of}
use Rattle.golay.specs.Answers.{Answer, accepted, refused}
use Rattle.reading.specs.Cases.{all_ones, all_zeros, one_against}
use Rattle.classes.specs.Codewords.{word}
use Rattle.buffers.specs.Buffers.{has_reading, reading_at}
use Rattle.soft.specs.declared.kinds.Soft.{Soft}
use Rattle.soft.specs.Calls.{SoftRule}
use Rattle.soft.proofs.Cases.{clean-answered, ones-answered, zeros-refused, one_against-refused}
use Rattle.choices.specs.Choices.{reserve_of, preferred}
use Rattle.receivers.specs.Calls.{both_have, Chooses}
use Rattle.receivers.specs.Cases.{all_twos, worked_first, worked_second, Case, cases, Holds}

-- the reserve of every answer to a reading
abbrev HasReserve : List ℤ → Answer ℤ → Type 0
HasReserve xs r = (a : Answer Soft) → SoftRule xs a → reserve_of a ≡ r

ones : HasReserve all_ones (accepted (pos 8))
ones a r = ap reserve_of (ones-answered a r)

twos : HasReserve all_twos (accepted (pos 16))
unfolding word codeword_of
twos a r = ap reserve_of (clean-answered 2 (lit≤ tt) (lit≤ tt) 0 (lit< tt) a r)

zeros : HasReserve all_zeros (refused 6)
zeros a r = ap reserve_of (zeros-refused a r)

against : HasReserve one_against (refused 6)
against a r = ap reserve_of (one_against-refused a r)

-- the choice where the reserves are known
by_reserves :
    (first second : List ℤ) (number : ℕ) {r s : Answer ℤ}
    → HasReserve (reading_at first number) r
    → HasReserve (reading_at second number) s
    → (k : ℕ)
    → Chooses first second number k
    → k ≡ cond (both_have first second number) (preferred r s) 0
by_reserves first second number f g k p =
    p.is
    ∙ ap₂ (λ (x y : Answer ℤ). cond (both_have first second number) (preferred x y) 0)
    (f p.one p.one-allowed)
    (g p.other p.other-allowed)

abbrev pub AllHold : List Case → Type 0
AllHold [] = Unit {0}
AllHold (c ∷ cs) = Holds c × AllHold cs

pub cases_hold : AllHold cases
unfolding has_reading reading_at worked_first worked_second
cases_hold = (
  (by_reserves worked_first worked_second 0 ones twos, by_reserves worked_second worked_first 0 twos ones),
  (
    (by_reserves worked_first worked_second 1 ones ones, by_reserves worked_second worked_first 1 ones ones),
    (
      (by_reserves worked_first worked_second 2 zeros ones, by_reserves worked_second worked_first 2 ones zeros),
      (
        (by_reserves worked_first worked_second 3 zeros against, by_reserves worked_second worked_first 3 against zeros),
        (
          (λ k p. p.is, λ k p. p.is),
          tt,
        ),
      ),
    ),
  ),
)
