-- A size and a sign in one number. For fewer than eight numbers the sum of their codes holds the sum of the sizes and the parity of the
-- signs, and the least code holds the least size: nothing but additions and comparisons is left to do.
use mathlib.Core.Path.{◌≡◌, refl, ap, ◌∙◌}
use mathlib.Core.List.{List, [], ◌∷◌}
use Prim.Native.Nat.{ℕ, ◌+◌, ◌*◌, ◌/◌, ◌%◌, ◌≤◌, ◌<◌, min}
use native.Mathlib.Nat.{min-eq_left, min-eq_right}
use native.Mathlib.Omega.{arith}
use native.Mathlib.Decide.{dec_lt}
use lib.IntN.{ℤ, nat_abs}
use lib.ListN.{length}
use Rattle.signed.specs.Sign.{sign}
use Rattle.contest.specs.Words.{one, odd}
use Rattle.contest.specs.Losses.{weight}
use Rattle.contest.specs.Figures.{signs, least, code}
use Rattle.contest.proofs.Numbers.{one_small, one-differ}

abbrev pub code_sum : List ℤ → ℕ
code_sum [] = 0
code_sum (f ∷ fs) = code f + code_sum fs

abbrev pub code_least : ℤ → List ℤ → ℕ
code_least f [] = code f
code_least f (g ∷ fs) = min (code f) (code_least g fs)

-- the sum of codes is eight times the sizes and as many as there are negative signs
record Summed (fs : List ℤ) : Type 0 where
  negatives : ℕ
  few : negatives ≤ length fs
  sum : code_sum fs ≡ 8 * weight fs + negatives
  parity : negatives % 2 ≡ one (odd (signs fs))

summed : (fs : List ℤ) → Summed fs
summed [] = record { negatives = 0; few = omega arith; sum = refl; parity = refl }
summed (f ∷ fs) =
    let S = summed fs in
    record {
      negatives = S.negatives + one (sign f);
      few = omega (arith, S.few, one_small (sign f));
      sum = omega (arith, S.sum);
      parity = omega (arith, S.parity, one-differ (sign f) (odd (signs fs)), one_small (sign f), one_small (odd (signs fs)));
    }

pub codes-weight : (fs : List ℤ) → length fs < 8 → code_sum fs / 8 ≡ weight fs
codes-weight fs h = let S = summed fs in omega (arith, S.sum, S.few)

pub codes-odd : (fs : List ℤ) → length fs < 8 → code_sum fs % 2 ≡ one (odd (signs fs))
codes-odd fs h = let S = summed fs in omega (arith, S.sum, S.parity)

min_eighths : (x s y : ℕ) → s < 2 → min (8 * x + s) y / 8 ≡ min x (y / 8)
min_eighths x s y h = go (dec_lt y (8 * x + s))
  where
    go : Dec (y < 8 * x + s) → min (8 * x + s) y / 8 ≡ min x (y / 8)
    go (yes l) =
        let e : y ≤ 8 * x + s = omega arith in
        let g : y / 8 ≤ x = omega arith in
        rw (min-eq_right e, min-eq_right g)
    go (no n) =
        let e : 8 * x + s ≤ y = omega arith in
        let g : x ≤ y / 8 = omega arith in
        rw (min-eq_left e, min-eq_left g) (omega arith)

pub codes-least : (f : ℤ) (fs : List ℤ) → code_least f fs / 8 ≡ least f fs
codes-least f [] = omega (arith, one_small (sign f))
codes-least f (g ∷ fs) = min_eighths (nat_abs f) (one (sign f)) (code_least g fs) (one_small (sign f)) ∙ ap (min (nat_abs f)) (codes-least g fs)
