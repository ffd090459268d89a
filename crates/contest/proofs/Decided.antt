-- A reading has exactly one answer: of the two largest correlations, either they are the same and it is tied, or the first is accepted with
-- half their difference, a difference of losses.
use mathlib.Core.Path.{◌≡◌, refl, sym, ap₂}
use mathlib.Core.Logic.{◌⊎◌, inl, inr}
use mathlib.Core.Bool.{Bool}
use mathlib.Core.List.{List}
use Prim.Native.Nat.{ℕ, ◌+◌, ◌-◌, ◌*◌, ◌<◌}
use native.Mathlib.Omega.{arith}
use native.Mathlib.Decide.{ℕ_discrete}
use lib.IntN.{ℤ, pos, ◌-ℤ◌}
use lib.Signed.{◌≤ℤ◌, ◌<ℤ◌, ≤ℤ_refl}
use Rattle.signed.specs.Sign.{hi, lo}
use Rattle.signed.proofs.Parts.{ints, sub_parts, le_or_lt}
use Rattle.contest.specs.Words.{Family}
use Rattle.contest.specs.Readings.{Reading, scores}
use Rattle.contest.specs.Largest.{Largest, Best}
use Rattle.contest.specs.Answers.{Accepted, Tied, Answer, accepted, tied, Answers}
use Rattle.contest.specs.Losses.{loss, weight}
use Rattle.contest.proofs.Loss.{level}
use Rattle.contest.proofs.Span.{Two, two-largest, behind, next-value}

-- ---- from the two largest correlations

module _ {N : ℕ} {word : ℕ → List Bool} {xs : List ℤ} {b s : ℤ} {m : ℕ} (A : Best (scores word xs) 0 N b s m) where
  pub settled-tied : b ≡ s → Tied N word xs
  settled-tied e = record {
    one = m;
    other = A.runner;
    different = λ g. A.next.other (sym g);
    one-largest = A.largest;
    other-largest = record {
      from = A.next.from;
      below = A.next.below;
      most = λ k x y. let g = A.largest.most k x y in omega ints;
    };
  }

  pub settled-accepted : {ρ : ℕ} → s <ℤ b → b -ℤ s ≡ pos (2 * ρ) → Accepted N word xs m ρ
  settled-accepted h e = record {
    known = A.largest.below;
    only = λ k y d. let g = A.next.most k (omega arith) y d in omega ints;
    runner = A.runner;
    next = A.next;
    half = rw (← A.best, ← A.second) e;
  }

-- ---- at most one answer

module _ {N : ℕ} {word : ℕ → List Bool} {xs : List ℤ} {m ρ : ℕ} (a : Accepted N word xs m ρ) where
  -- no other word has the largest
  pub only-largest : (k : ℕ) → Largest (scores word xs) 0 N k → k ≡ m
  only-largest k L = go (ℕ_discrete k m)
    where
      go : Dec (k ≡ m) → k ≡ m
      go (yes e) = e
      go (no d) =
          let g = a.only k L.below d in
          let h = L.most m (omega arith) a.known in
          absurd (omega ints)

  pub accepted-largest : Largest (scores word xs) 0 N m
  accepted-largest = record { from = omega arith; below = a.known; most = λ k x y. go k y (ℕ_discrete k m) }
    where
      go : (k : ℕ) → k < N → Dec (k ≡ m) → scores word xs k ≤ℤ scores word xs m
      go k y (yes e) = rw e (≤ℤ_refl (scores word xs m))
      go k y (no d) = let g = a.only k y d in omega ints

module _ {N : ℕ} {word : ℕ → List Bool} {xs : List ℤ} where
  pub not-both : {m ρ : ℕ} → Accepted N word xs m ρ → Tied N word xs → ⊥
  not-both a t = t.different (omega (arith, only-largest a t.one t.one-largest, only-largest a t.other t.other-largest))

  pub one_word : {m k ρ σ : ℕ} → Accepted N word xs m ρ → Accepted N word xs k σ → m ≡ k
  one_word {m} a c = only-largest c m (accepted-largest a)

  same_reserve : {m ρ σ : ℕ} → Accepted N word xs m ρ → Accepted N word xs m σ → ρ ≡ σ
  same_reserve {m} a c =
      let e = next-value a.next c.next in
      let f = a.half in
      let g = c.half in
      omega (ints, sub_parts (scores word xs m) (scores word xs a.runner), sub_parts (scores word xs m) (scores word xs c.runner))

  pub one_reserve : {m k ρ σ : ℕ} → Accepted N word xs m ρ → Accepted N word xs k σ → ρ ≡ σ
  one_reserve {ρ = ρ} {σ = σ} a c = same_reserve a (rw (sym (one_word a c)) at c)

module _ (N : ℕ) (word : ℕ → List Bool) (xs : List ℤ) where
  pub one_answer : (p q : Answer) → Answers N word xs p → Answers N word xs q → p ≡ q
  one_answer (accepted m ρ) (accepted k σ) a c = ap₂ accepted (one_word a c) (one_reserve a c)
  one_answer (accepted m ρ) tied a t = absurd (not-both a t)
  one_answer tied (accepted k σ) t c = absurd (not-both c t)
  one_answer tied tied t u = refl

-- ---- at least one

module _ {B N n : ℕ} {word : ℕ → List Bool} (F : Family N n word) {xs : List ℤ} (X : Reading B n xs) where
  -- a word's correlation, by its loss
  pub at_level : (k : ℕ) → k < N → hi (scores word xs k) + 2 * loss (word k) xs ≡ lo (scores word xs k) + weight xs
  at_level k h = level (word k) xs (omega (arith, F.long k h, X.long))

  -- the two largest correlations decide the answer
  pub settled : {b s : ℤ} {m : ℕ} → Best (scores word xs) 0 N b s m → s <ℤ b → (ρ : ℕ) × (b -ℤ s ≡ pos (2 * ρ)) × Accepted N word xs m ρ
  settled {b} {s} {m} A h =
      let ρ = loss (word A.runner) xs - loss (word m) xs in
      let u = at_level m A.largest.below in
      let v = at_level A.runner A.next.below in
      let e : b -ℤ s ≡ pos (2 * ρ) = omega (ints, sub_parts b s) in
      (ρ, e, settled-accepted A h e)

  pub decided : (p : Answer) × Answers N word xs p
  decided = let T = two-largest (scores word xs) N F.two in go T (le_or_lt T.best T.second)
    where
      go : (T : Two (scores word xs) 0 N) → (T.best ≤ℤ T.second) ⊎ (T.second <ℤ T.best) → (p : Answer) × Answers N word xs p
      go T (inl h) = let g = behind T.two in (tied, settled-tied T.two (omega ints))
      go T (inr h) = let a = settled T.two h in (accepted T.at a.0, a.2)
