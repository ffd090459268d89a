-- What holds of any reserve: the difference that it halves is even, so it is whole; it is at least 1; and no word is further behind than
-- the positions in which it differs can put it.
use mathlib.Core.Path.{◌≡◌}
use mathlib.Core.Logic.{◌≢◌}
use mathlib.Core.Bool.{Bool}
use mathlib.Core.List.{List}
use Prim.Native.Nat.{ℕ, ◌+◌, ◌*◌, ◌≤◌, ◌<◌}
use native.Mathlib.Omega.{arith}
use lib.IntN.{ℤ, pos, ◌-ℤ◌, ◌*ℤ◌}
use Rattle.signed.specs.Within.{Within}
use Rattle.signed.proofs.Parts.{parts, parts_eq, ints, sub_parts}
use Rattle.contest.specs.Words.{Family, distance}
use Rattle.contest.specs.Readings.{Reading, scores}
use Rattle.contest.specs.Answers.{Accepted}
use Rattle.contest.specs.Losses.{loss}
use Rattle.contest.proofs.Loss.{align}
use Rattle.contest.proofs.Bounds.{weight-range, correlation-weight, apart}
use Rattle.contest.proofs.Decided.{at_level}

module _ {B N n : ℕ} {word : ℕ → List Bool} (F : Family N n word) {xs : List ℤ} (X : Reading B n xs) where
  -- Rule 7.3: two correlations differ by an even number
  pub even : {m k : ℕ} → m < N → k < N → (z : ℤ) × (scores word xs m -ℤ scores word xs k ≡ pos 2 *ℤ z)
  even {m} {k} hm hk =
      let z = pos (loss (word k) xs) -ℤ pos (loss (word m) xs) in
      (z, parts_eq _ _ (simp parts (omega (arith, at_level F X m hm, at_level F X k hk))))

  -- Rule 6.5: the size of a correlation is at most n times B
  pub score_size : {m : ℕ} → m < N → Within (n * B) (scores word xs m)
  score_size {m} h =
      let w = weight-range B xs X.range in
      record { within = omega (arith, correlation-weight (word m) xs, rw X.long at w) }

  module _ {m ρ : ℕ} (a : Accepted N word xs m ρ) where
    -- the reserve is the lead in losses over the runner, and no other word is nearer
    pub margin : loss (word a.runner) xs ≡ loss (word m) xs + ρ
    margin =
        let e = a.half in
        omega (ints, sub_parts (scores word xs m) (scores word xs a.runner), at_level F X m a.known, at_level F X a.runner a.next.below)

    pub lead : (k : ℕ) → k < N → k ≢ m → loss (word m) xs + ρ ≤ loss (word k) xs
    lead k h d =
        let g = a.next.most k (omega arith) h d in
        omega (ints, margin, at_level F X k h, at_level F X a.runner a.next.below)

    -- Rule 7.3: a reserve is 1 or more
    pub reserve_positive : 1 ≤ ρ
    reserve_positive =
        let h = a.only a.runner a.next.below a.next.other in
        let e = a.half in
        omega (ints, sub_parts (scores word xs m) (scores word xs a.runner))

    -- Rule 7.3: and d times B or less, where another word differs in d positions
    pub reserve_most : (k : ℕ) → k < N → k ≢ m → ρ ≤ distance (word m) (word k) * B
    reserve_most k h d =
        let al = align (word m) (word k) xs xs (F.long m a.known) (F.long k h) X.long X.long in
        omega (arith, lead k h d, apart B al X.range)
