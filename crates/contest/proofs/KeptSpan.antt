-- What is kept of the values of f from 0 up to n, seen in order, each at its number, are the two largest of that span.
use mathlib.Core.Path.{◌≡◌, refl, ap, sym}
use mathlib.Core.Logic.{◌≢◌, ◌⊎◌, inl, inr}
use mathlib.Core.List.Memᴰ
use mathlib.Core.List.{List, [], ◌∷◌, ◌++◌, Memᴰ}
use Prim.Native.Nat.{ℕ, zero, suc, ◌≤◌, ◌<◌}
use native.Mathlib.Omega.{arith}
use native.Mathlib.Decide.{ℕ_discrete}
use lib.IntN.{ℤ}
use lib.ListN.{length, get_or, drop}
use lib.Signed.{◌≤ℤ◌}
use Rattle.signed.proofs.Parts.{ints}
use Rattle.contest.specs.Kept.{Seen, seen, values, lowest, Kept, run}
use Rattle.contest.specs.Largest.{Best}
use Rattle.contest.specs.declared.Keeper.{Keeper}
use Rattle.contest.proofs.Keeping.{kept-most}

module _ (f : ℕ → ℤ) where
  run_has : (n k : ℕ) → k < n → Memᴰ (f k) (values (run f n))
  run_has zero k h = absurd (omega arith)
  run_has (suc n) k h = go (ℕ_discrete k n) (run_has n k)
    where
      go : Dec (k ≡ n) → (k < n → Memᴰ (f k) (values (run f n))) → Memᴰ (f k) (f n ∷ values (run f n))
      go (yes e) deeper = Memᴰ.head (ap f e)
      go (no d) deeper = Memᴰ.tail (deeper (omega arith))

  -- which number below n a value of the others has
  record Found (n m : ℕ) (v : ℤ) : Type 0 where
    at : ℕ
    below : at < n
    other : at ≢ m
    here : v ≡ f at

  wider : {n m : ℕ} {v : ℤ} → Found n m v → Found (suc n) m v
  wider F = record { at = F.at; below = omega (arith, F.below); other = F.other; here = F.here }

  run_of : (n : ℕ) (v : ℤ) → Memᴰ v (values (run f n)) → Found n n v
  run_of zero v m = absurd (Memᴰ.not-nil m)
  run_of (suc n) v m = go (Memᴰ.cases_cons m) (run_of n v)
    where
      go : (v ≡ f n) ⊎ Memᴰ v (values (run f n)) → (Memᴰ v (values (run f n)) → Found n n v) → Found (suc n) (suc n) v
      go (inl e) deeper = record { at = n; below = omega arith; other = omega arith; here = e }
      go (inr k) deeper =
          let F = deeper k in
          record { at = F.at; below = omega (arith, F.below); other = omega (arith, F.below); here = F.here }

  -- one of the run picked out, and the others
  record Split (n : ℕ) (s : Seen) (others : List Seen) : Type 0 where
    below : s.place < n
    here : s.value ≡ f s.place
    has : (k : ℕ) → k < n → k ≢ s.place → Memᴰ (f k) (values others)
    of : (v : ℤ) → Memᴰ v (values others) → Found n s.place v

  newest : (n : ℕ) → Split (suc n) (seen (f n) n) (run f n)
  newest n = record {
    below = omega arith;
    here = refl;
    has = λ k h d. run_has n k (omega arith);
    of = λ v m. wider (run_of n v m);
  }

  older : {n : ℕ} {s : Seen} {others : List Seen} → Split n s others → Split (suc n) s (seen (f n) n ∷ others)
  older {n} {s} {others} S = record {
    below = omega (arith, S.below);
    here = S.here;
    has = λ k h d. has k h d (ℕ_discrete k n);
    of = λ v m. of v (Memᴰ.cases_cons m);
  }
    where
      has : (k : ℕ) → k < suc n → k ≢ s.place → Dec (k ≡ n) → Memᴰ (f k) (f n ∷ values others)
      has k h d (yes e) = Memᴰ.head (ap f e)
      has k h d (no g) = Memᴰ.tail (S.has k (omega arith) d)

      of : (v : ℤ) → (v ≡ f n) ⊎ Memᴰ v (values others) → Found (suc n) s.place v
      of v (inl e) = record { at = n; below = omega arith; other = omega (arith, S.below); here = e }
      of v (inr m) = wider (S.of v m)

  front : {n : ℕ} (s : Seen) {l : List Seen} → run f (suc n) ≡ s ∷ l → s ≡ seen (f n) n
  front s e = ap (λ l. get_or l 0 s) (sym e)

  splits : (n : ℕ) (a c : List Seen) {s : Seen} → run f n ≡ a ++ (s ∷ c) → Split n s (a ++ c)
  splits zero [] c e = absurd (omega (arith, ap length e))
  splits zero (x ∷ a) c e = absurd (omega (arith, ap length e))
  splits (suc n) [] c {s} e = rw (front s e, ap (drop 1) (sym e)) (newest n)
  splits (suc n) (x ∷ a) c e = rw (front x e) (older (splits n a c (ap (drop 1) e)))

  module _ (n : ℕ) (two : 2 ≤ n) (low : (k : ℕ) → k < n → lowest ≤ℤ f k) {t : Keeper} (K : Kept (run f n) t) where
    others : Split n (seen t.best t.at) (K.later ++ K.earlier)
    others = splits n K.later K.earlier K.split

    second-most : (k : ℕ) → k < n → k ≢ t.at → f k ≤ℤ t.second
    second-most k h d = K.others.most (f k) (Memᴰ.tail (others.has k h d))

    -- a number whose value is the second: where that is the least i64, any other number
    runner : Found n t.at t.second
    runner = go (Memᴰ.cases_cons K.others.among) (ℕ_discrete t.at 0)
      where
        spare : (k : ℕ) → k < n → k ≢ t.at → t.second ≡ lowest → Found n t.at t.second
        spare k h d e =
            let g = second-most k h d in
            let u = low k h in
            record { at = k; below = h; other = d; here = omega ints }

        go : (t.second ≡ lowest) ⊎ Memᴰ t.second (values (K.later ++ K.earlier)) → Dec (t.at ≡ 0) → Found n t.at t.second
        go (inr m) z = others.of t.second m
        go (inl e) (yes z) = spare 1 (omega arith) (omega arith) e
        go (inl e) (no z) = spare 0 (omega arith) (omega arith) e

    pub kept-best : Best f 0 n t.best t.second t.at
    kept-best = record {
      largest = record {
        from = omega arith;
        below = others.below;
        most = λ k x y. let g = kept-most K (f k) (run_has n k y) in let e = others.here in omega ints;
      };
      runner = runner.at;
      next = record {
        from = omega arith;
        below = runner.below;
        other = runner.other;
        most = λ k x y d. let g = second-most k y d in let e = runner.here in omega ints;
      };
      best = others.here;
      second = runner.here;
    }
