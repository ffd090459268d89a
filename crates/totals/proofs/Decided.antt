-- Two answers that the promise of a call allows are equal.
-- Assumes nothing.
use mathlib.Core.Path.{◌≡◌, refl}
use Prim.Native.Nat.{ℕ}
use Rattle.std.specs.Prelude.{Result, Ok, Err}
use Rattle.golay.specs.declared.kinds.Refusal.{Refusal}
use Rattle.golay.specs.Answers.{Answer, accepted, refused}
use Rattle.golay.proofs.Decided.{said_once, answer-once}
use Rattle.totals.specs.declared.kinds.Tally.{Tally}
use Rattle.totals.specs.Totals.{numbered, tally_answer, accepted_rule, refused_rule}

pub count_accepted-decided : (t : Tally) (count ρ : ℕ) (x y : Result Tally Refusal)
    → tally_answer x ≡ accepted_rule t count ρ → tally_answer y ≡ accepted_rule t count ρ → x ≡ y
count_accepted-decided t count ρ = answer-once (λ t. t) (λ t. t) (λ t. refl)

again : {A : Type 0} → Answer A → Result A ℕ
again (accepted x) = Ok x
again (refused n) = Err n

back : {A : Type 0} (r : Result A ℕ) → again (numbered r) ≡ r
unfolding again
back (Ok x) = refl
back (Err n) = refl

pub count_refused-decided : (t : Tally) (n : ℕ) (x y : Result Tally ℕ) → numbered x ≡ refused_rule t n → numbered y ≡ refused_rule t n → x ≡ y
count_refused-decided t n = said_once numbered again back
