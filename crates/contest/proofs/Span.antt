-- The two largest values of a span, and of a span and what comes after it: what is new decides which of the four cases holds. A decoder
-- that goes through its words in order, one by one or run by run, takes exactly these steps.
use mathlib.Core.Path.{◌≡◌, refl}
use mathlib.Core.Logic.{◌≢◌, ◌⊎◌, inl, inr}
use Prim.Native.Nat.{ℕ, zero, suc, ◌+◌, ◌≤◌, ◌<◌}
use native.Mathlib.Omega.{arith}
use native.Mathlib.Decide.{ℕ_discrete, dec_le}
use lib.IntN.{ℤ}
use lib.Signed.{◌≤ℤ◌, ◌<ℤ◌, ≤ℤ_refl}
use Rattle.signed.proofs.Parts.{ints, le_or_lt}
use Rattle.contest.specs.Largest.{Largest, Next, Best}

split : {P : ℕ → Type 0} {i j l : ℕ} → ((k : ℕ) → i ≤ k → k < j → P k) → ((k : ℕ) → j ≤ k → k < l → P k) → (k : ℕ) → i ≤ k → k < l → P k
split {P} {i} {j} {l} p q k a b = go (dec_le j k)
  where
    go : Dec (j ≤ k) → P k
    go (yes h) = q k h b
    go (no h) = p k a (omega arith)

module _ {f : ℕ → ℤ} {i j : ℕ} where
  pub behind : {b s : ℤ} {m : ℕ} → Best f i j b s m → s ≤ℤ b
  behind A = let g = A.largest.most A.runner A.next.from A.next.below in omega ints

  pub next-value : {m r t : ℕ} → Next f i j m r → Next f i j m t → f r ≡ f t
  next-value {r = r} {t = t} p q =
      let g = p.most t q.from q.below q.other in
      let h = q.most r p.from p.below p.other in
      omega ints

-- ---- what comes after a span, by what has to be known of it

module _ {f : ℕ → ℤ} {i j : ℕ} {b s : ℤ} {m : ℕ} (A : Best f i j b s m) where
  -- nothing above the second: it changes nothing, and no more need be known of it
  pub none_after : {l : ℕ} → j ≤ l → ((k : ℕ) → j ≤ k → k < l → f k ≤ℤ s) → Best f i l b s m
  none_after h q = record {
    largest = record {
      from = A.largest.from;
      below = omega (arith, A.largest.below);
      most = split A.largest.most (λ k x y. let g = q k x y in let e = behind A in omega ints);
    };
    runner = A.runner;
    next = record {
      from = A.next.from;
      below = omega (arith, A.next.below);
      other = A.next.other;
      most = split A.next.most (λ k x y d. let g = q k x y in omega ints);
    };
    best = A.best;
    second = A.second;
  }

  -- its largest is the new second
  pub second_after : {l n : ℕ} {t : ℤ} → Largest f j l n → t ≡ f n → t ≤ℤ b → s <ℤ t → Best f i l b t m
  second_after {n = n} L e h g = record {
    largest = record {
      from = A.largest.from;
      below = omega (arith, A.largest.below, L.from, L.below);
      most = split A.largest.most (λ k x y. let u = L.most k x y in omega ints);
    };
    runner = n;
    next = record {
      from = omega (arith, A.largest.from, A.largest.below, L.from);
      below = L.below;
      other = omega (arith, A.largest.below, L.from);
      most = split (λ k x y d. let u = A.next.most k x y d in omega ints) (λ k x y d. L.most k x y);
    };
    best = A.best;
    second = e;
  }

  -- its largest is the new largest, and its others are not above the old one
  pub best_after : {l n : ℕ} {t : ℤ} → Largest f j l n → ((k : ℕ) → j ≤ k → k < l → k ≢ n → f k ≤ℤ b) → t ≡ f n → b <ℤ t → Best f i l t b n
  best_after {n = n} L q e h = record {
    largest = record {
      from = omega (arith, A.largest.from, A.largest.below, L.from);
      below = L.below;
      most = split (λ k x y. let u = A.largest.most k x y in omega ints) L.most;
    };
    runner = m;
    next = record {
      from = A.largest.from;
      below = omega (arith, A.largest.below, L.from, L.below);
      other = omega (arith, A.largest.below, L.from);
      most = split (λ k x y d. let u = A.largest.most k x y in omega ints) (λ k x y d. let u = q k x y d in omega ints);
    };
    best = e;
    second = A.best;
  }

-- ---- the neighbouring span, by its two largest

module _ {f : ℕ → ℤ} {i j l : ℕ} {b s t u : ℤ} {m n : ℕ} (A : Best f i j b s m) (B : Best f j l t u n) where
  pub none-new : t ≤ℤ s → Best f i l b s m
  none-new h = none_after A (omega (arith, B.largest.from, B.largest.below)) (λ k x y. let g = B.largest.most k x y in omega ints)

  pub second-new : t ≤ℤ b → s <ℤ t → Best f i l b t m
  second-new h g = second_after A B.largest B.best h g

  pub best-new : b <ℤ t → u ≤ℤ b → Best f i l t b n
  best-new h g = best_after A B.largest (λ k x y d. let e = B.next.most k x y d in omega ints) B.best h

  pub both-new : b <ℤ u → Best f i l t u n
  both-new h = record {
    largest = record {
      from = omega (arith, A.largest.from, A.largest.below, B.largest.from);
      below = B.largest.below;
      most = split (λ k x y. let g = A.largest.most k x y in let e = behind B in omega ints) B.largest.most;
    };
    runner = B.runner;
    next = record {
      from = omega (arith, A.largest.from, A.largest.below, B.next.from);
      below = B.next.below;
      other = B.next.other;
      most = split (λ k x y d. let g = A.largest.most k x y in omega ints) B.next.most;
    };
    best = B.best;
    second = B.second;
  }

-- ---- one value more

module _ {f : ℕ → ℤ} where
  alone : (j : ℕ) → Largest f j (suc j) j
  alone j = record {
    from = omega arith;
    below = omega arith;
    most = λ k x y. let e : k ≡ j = omega arith in rw e (≤ℤ_refl (f j));
  }

  module _ {i j : ℕ} {b s : ℤ} {m : ℕ} (A : Best f i j b s m) where
    pub next-none : f j ≤ℤ s → Best f i (suc j) b s m
    next-none h = none_after A (omega arith) (λ k x y. let e : k ≡ j = omega arith in rw e h)

    pub next-second : f j ≤ℤ b → s <ℤ f j → Best f i (suc j) b (f j) m
    next-second h g = second_after A (alone j) refl h g

    pub next-best : b <ℤ f j → Best f i (suc j) (f j) b j
    next-best h = best_after A (alone j) (λ k x y d. absurd (omega arith)) refl h

  pair : (m r : ℕ) → m + r ≡ 1 → f r ≤ℤ f m → Best f 0 2 (f m) (f r) m
  pair m r e h = record {
    largest = record { from = omega arith; below = omega arith; most = λ k x y. go k y (ℕ_discrete k m) };
    runner = r;
    next = record {
      from = omega arith;
      below = omega arith;
      other = omega arith;
      most = λ k x y d. let g : k ≡ r = omega arith in rw g (≤ℤ_refl (f r));
    };
    best = refl;
    second = refl;
  }
    where
      go : (k : ℕ) → k < 2 → Dec (k ≡ m) → f k ≤ℤ f m
      go k y (yes g) = rw g (≤ℤ_refl (f m))
      go k y (no d) = let g : k ≡ r = omega arith in rw g h

-- ---- there are two largest

pub record Two (f : ℕ → ℤ) (i j : ℕ) : Type 0 where
  pub best : ℤ
  pub second : ℤ
  pub at : ℕ
  pub two : Best f i j best second at

module _ (f : ℕ → ℤ) where
  start : Two f 0 2
  start = go (le_or_lt (f 1) (f 0))
    where
      go : (f 1 ≤ℤ f 0) ⊎ (f 0 <ℤ f 1) → Two f 0 2
      go (inl h) = record { best = f 0; second = f 1; at = 0; two = pair 0 1 refl h }
      go (inr h) = record { best = f 1; second = f 0; at = 1; two = pair 1 0 refl (omega ints) }

  step : {i j : ℕ} → Two f i j → Two f i (suc j)
  step {i} {j} T = go (le_or_lt (f j) T.second) (le_or_lt (f j) T.best)
    where
      go : (f j ≤ℤ T.second) ⊎ (T.second <ℤ f j) → (f j ≤ℤ T.best) ⊎ (T.best <ℤ f j) → Two f i (suc j)
      go (inl h) g = record { best = T.best; second = T.second; at = T.at; two = next-none T.two h }
      go (inr h) (inl g) = record { best = T.best; second = f j; at = T.at; two = next-second T.two g h }
      go (inr h) (inr g) = record { best = f j; second = T.best; at = j; two = next-best T.two g }

  from_start : (n : ℕ) → Two f 0 (suc (suc n))
  from_start zero = start
  from_start (suc n) = step (from_start n)

  pub two-largest : (N : ℕ) → 2 ≤ N → Two f 0 N
  two-largest zero h = absurd (omega arith)
  two-largest (suc zero) h = absurd (omega arith)
  two-largest (suc (suc n)) h = from_start n
