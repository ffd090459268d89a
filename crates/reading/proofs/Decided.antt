-- Two answers that the promise of a reading's check allows are equal.
-- Assumes nothing.
use mathlib.Core.Path.{◌≡◌, refl}
use mathlib.Core.List.{List}
use lib.IntN.{ℤ}
use Rattle.std.specs.Prelude.{Result}
use Rattle.golay.specs.declared.kinds.Refusal.{Refusal}
use Rattle.golay.proofs.Decided.{answer-once}
use Rattle.reading.specs.Calls.{check_answer, check_rule}

pub check-decided : (xs : List ℤ) (x y : Result (Unit {0}) Refusal) → check_answer x ≡ check_rule xs → check_answer y ≡ check_rule xs → x ≡ y
check-decided xs = answer-once (λ u. u) (λ u. u) (λ u. refl)
