-- What two plain signals are answered by, in any family: a clean signal of a word by that word, with the least distance times the size of
-- its confidences as the reserve; and silence by a tie.
use mathlib.Core.Path.{◌≡◌, refl, ap}
use mathlib.Core.Logic.{◌≢◌}
use mathlib.Core.Bool.{Bool, true, false}
use mathlib.Core.List.{List, [], ◌∷◌}
use Prim.Native.Nat.{ℕ, zero, suc, ◌*◌, ◌≤◌, ◌<◌}
use native.Mathlib.Nat.{add-mul, mul-le-mul_right}
use native.Mathlib.Omega.{arith}
use lib.IntN.{ℤ, pos, neg_ℤ-neg_ℤ}
use lib.ListN.{length, replicate}
use lib.Signed.{≤ℤ_refl}
use Rattle.signed.specs.Sign.{lo, signed}
use Rattle.signed.proofs.Parts.{hi-neg, lo-neg, ints, sub_parts}
use Rattle.signed.proofs.Bounds.{size-signed}
use Rattle.contest.specs.Words.{differ, one, distance, Family}
use Rattle.contest.specs.Readings.{InRange, Reading, correlation, clean, scores}
use Rattle.contest.specs.Largest.{Largest}
use Rattle.contest.specs.Answers.{Accepted, Tied}
use Rattle.contest.specs.Losses.{loss, weight}
use Rattle.contest.proofs.Bounds.{own_range}
use Rattle.contest.proofs.Decided.{at_level}

-- ---- what a clean signal says against a word: its size, at every position where the words differ

one-loss : (s : ℕ) (b c : Bool) → lo (signed c (signed b (pos s))) ≡ one (differ b c) * s
one-loss s false false = omega arith
one-loss s false true = omega (arith, lo-neg (pos s))
one-loss s true false = omega (arith, lo-neg (pos s))
one-loss s true true = omega (arith, lo-neg (signed true (pos s)), hi-neg (pos s))

pub clean-loss : (s : ℕ) (bs cs : List Bool) → length bs ≡ length cs → loss cs (clean s bs) ≡ distance bs cs * s
unfolding distance
clean-loss s [] [] e = omega arith
clean-loss s [] (c ∷ cs) e = absurd (omega arith)
clean-loss s (b ∷ bs) [] e = absurd (omega arith)
clean-loss s (b ∷ bs) (c ∷ cs) e =
    omega (arith, one-loss s b c, clean-loss s bs cs (omega arith), add-mul (one (differ b c)) (distance bs cs) s)

pub clean-long : (s : ℕ) (bs : List Bool) → length (clean s bs) ≡ length bs
clean-long s [] = refl
clean-long s (b ∷ bs) = omega (arith, clean-long s bs)

twice_signed : (b : Bool) (x : ℤ) → signed b (signed b x) ≡ x
twice_signed false x = refl
twice_signed true x = neg_ℤ-neg_ℤ x

pub clean-correlation : (s : ℕ) (bs : List Bool) → correlation bs (clean s bs) ≡ pos (length bs * s)
unfolding correlation
clean-correlation s [] = ap pos (omega arith)
clean-correlation s (b ∷ bs) = rw (twice_signed b (pos s), clean-correlation s bs) (ap pos (omega (arith, add-mul 1 (length bs) s)))

pub clean-range : {s B : ℕ} → s ≤ B → (bs : List Bool) → InRange B (clean s bs)
unfolding InRange
clean-range h [] = tt
clean-range {s} h (b ∷ bs) = (record { within = omega (arith, size-signed b (pos s)) }, clean-range h bs)

one_self : (b : Bool) → one (differ b b) ≡ 0
one_self false = refl
one_self true = refl

distance_self : (bs : List Bool) → distance bs bs ≡ 0
unfolding distance
distance_self [] = refl
distance_self (b ∷ bs) = omega (arith, one_self b, distance_self bs)

-- a family whose words differ in at least d positions, and a word that has another at exactly d
module _ {N n d : ℕ} {word : ℕ → List Bool} (F : Family N n word)
    (apart : (m k : ℕ) → m < N → k < N → k ≢ m → d ≤ distance (word m) (word k)) (some : 1 ≤ d)
    {m r : ℕ} (known : m < N) (below : r < N) (other : r ≢ m) (exactly : distance (word m) (word r) ≡ d) (s : ℕ) (loud : 1 ≤ s) where
  xs : List ℤ
  xs = clean s (word m)

  valid : Reading (weight xs) n xs
  unfolding xs
  valid = record { long = omega (arith, clean-long s (word m), F.long m known); range = own_range xs }

  loses : (k : ℕ) → k < N → loss (word k) xs ≡ distance (word m) (word k) * s
  unfolding xs
  loses k h = clean-loss s (word m) (word k) (omega (arith, F.long m known, F.long k h))

  own : loss (word m) xs ≡ 0
  own = let e = loses m known in let z : 0 * s ≡ 0 = omega arith in rw (distance_self (word m), z) at e

  runner : loss (word r) xs ≡ d * s
  runner = rw exactly at (loses r below)

  others : (k : ℕ) → k < N → k ≢ m → d * s ≤ loss (word k) xs
  others k h e = omega (arith, loses k h, mul-le-mul_right s (apart m k known h e))

  loud_lead : 1 ≤ d * s
  loud_lead = omega (arith, mul-le-mul_right s some)

  pub clean-accepted : Accepted N word (clean s (word m)) m (d * s)
  unfolding xs
  clean-accepted = record {
    known = known;
    only = λ k h e.
        let l = others k h e in
        let u = loud_lead in
        omega (ints, own, at_level F valid m known, at_level F valid k h);
    runner = r;
    next = record {
      from = omega arith;
      below = below;
      other = other;
      most = λ k a h e. let l = others k h e in omega (ints, runner, at_level F valid r below, at_level F valid k h);
    };
    half =
        omega (ints, own, runner, at_level F valid m known, at_level F valid r below, sub_parts (scores word xs m) (scores word xs r));
  }

-- ---- silence

signed_zero : (b : Bool) → signed b (pos 0) ≡ pos 0
signed_zero false = refl
signed_zero true = refl

silent : (n : ℕ) (bs : List Bool) → correlation bs (replicate n (pos 0)) ≡ pos 0
unfolding correlation
silent zero [] = refl
silent zero (b ∷ bs) = refl
silent (suc n) [] = refl
silent (suc n) (b ∷ bs) = rw (signed_zero b, silent n bs) refl

module _ {N n : ℕ} {word : ℕ → List Bool} (F : Family N n word) (l : ℕ) where
  all-largest : (m : ℕ) → m < N → Largest (scores word (replicate l (pos 0))) 0 N m
  all-largest m h = record { from = omega arith; below = h; most = λ k a b. rw (silent l (word k), silent l (word m)) (≤ℤ_refl (pos 0)) }

  pub silence_tied : Tied N word (replicate l (pos 0))
  silence_tied = record {
    one = 0;
    other = 1;
    different = λ e. omega (arith, e);
    one-largest = all-largest 0 (omega (arith, F.two));
    other-largest = all-largest 1 (omega (arith, F.two));
  }
