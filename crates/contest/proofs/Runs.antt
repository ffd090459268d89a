-- The two largest values of runs of one length, from the largest of each run: the largest of all stands in the run whose largest is largest,
-- and the next is the larger of the next of those and the second of that run. So one run alone has to be looked into.
use mathlib.Core.Path.{◌≡◌, sym, ap, ◌∙◌}
use mathlib.Core.Logic.{◌≢◌}
use Prim.Native.Nat.{ℕ, ◌+◌, ◌-◌, ◌*◌, ◌/◌, ◌≤◌, ◌<◌}
use native.Mathlib.Nat.{div-add-mod', div-lt_iff_lt-mul, mod-lt, mul-le-mul_right, add-mul, one-mul}
use native.Mathlib.Omega.{arith}
use native.Mathlib.Decide.{ℕ_discrete}
use lib.Arith.{digits_div}
use lib.IntN.{ℤ}
use lib.Signed.{◌≤ℤ◌}
use Rattle.signed.proofs.Parts.{ints}
use Rattle.contest.specs.Largest.{Largest, Best}

-- g is the largest value from i up to j
pub record Figure (f : ℕ → ℤ) (i j : ℕ) (g : ℤ) : Type 0 where
  pub at : ℕ
  pub largest : Largest f i j at
  pub is : g ≡ f at

-- the run that a place stands in
module _ {L : ℕ} (pos : 0 < L) where
  run_of : (k m : ℕ) → k * L ≤ m → m < k * L + L → m / L ≡ k
  run_of k m a b =
      let e : k * L + (m - k * L) ≡ m = omega arith in
      ap (λ (x : ℕ). x / L) (sym e) ∙ digits_div k (omega arith)

  run_low : (m : ℕ) → m / L * L ≤ m
  run_low m = omega (arith, div-add-mod' m L)

  run_high : (m : ℕ) → m < m / L * L + L
  run_high m = omega (arith, div-add-mod' m L, mod-lt m pos)

  run-below : (m N : ℕ) → m < N * L → m / L < N
  run-below m N h = (div-lt_iff_lt-mul pos).1 h

  run_end : (k N : ℕ) → k < N → k * L + L ≤ N * L
  run_end k N h =
      let e : (k + 1) * L ≡ k * L + L = add-mul k 1 L ∙ ap (λ (x : ℕ). k * L + x) (one-mul L) in
      let h' : k + 1 ≤ N = omega arith in
      omega (arith, e, mul-le-mul_right L h')

module _ {f g : ℕ → ℤ} {L N : ℕ} (pos : 0 < L) (runs : (k : ℕ) → k < N → Figure f (k * L) (k * L + L) (g k))
    {b s : ℤ} {k : ℕ} (G : Best g 0 N b s k) {c t : ℤ} {m : ℕ} (W : Best f (k * L) (k * L + L) c t m) where
  -- no value is above the figure of its run
  under : (j : ℕ) → j < N * L → f j ≤ℤ g (j / L)
  under j h =
      let R = runs (j / L) (run-below pos j N h) in
      let p = R.largest.most j (run_low pos j) (run_high pos j) in
      let e = R.is in
      omega ints

  winner : g k ≤ℤ f m
  winner =
      let R = runs k G.largest.below in
      let p = W.largest.most R.at R.largest.from R.largest.below in
      let e = R.is in
      omega ints

  largest : Largest f 0 (N * L) m
  largest = record {
    from = omega arith;
    below = omega (arith, W.largest.below, run_end pos k N G.largest.below);
    most = λ j a h.
        let p = under j h in
        let q = G.largest.most (j / L) (omega arith) (run-below pos j N h) in
        let w = winner in
        omega ints;
  }

  -- a value that does not stand at m is under the winner's second, or under the next figure
  others : (u : ℤ) → s ≤ℤ u → t ≤ℤ u → (j : ℕ) → j < N * L → j ≢ m → f j ≤ℤ u
  others u p q j h d = go (ℕ_discrete (j / L) k)
    where
      go : Dec (j / L ≡ k) → f j ≤ℤ u
      go (yes e) =
          let x : k * L ≤ j = omega (arith, run_low pos j, ap (λ (y : ℕ). y * L) e) in
          let y : j < k * L + L = omega (arith, run_high pos j, ap (λ (z : ℕ). z * L) e) in
          let w = W.next.most j x y d in
          let v = W.second in
          omega ints
      go (no n) =
          let x = under j h in
          let y = G.next.most (j / L) (omega arith) (run-below pos j N h) n in
          let v = G.second in
          omega ints

  -- the next figure is not below the winner's own second
  pub runs_next : t ≤ℤ s → Best f 0 (N * L) c s m
  runs_next h =
      let r = G.runner in
      let R = runs r G.next.below in
      record {
        largest = largest;
        runner = R.at;
        next = record {
          from = omega arith;
          below = omega (arith, R.largest.below, run_end pos r N G.next.below);
          other = λ e.
              G.next.other
              (sym (run_of pos r R.at R.largest.from R.largest.below) ∙ ap (λ (x : ℕ). x / L) e
              ∙ run_of pos k m W.largest.from W.largest.below);
          most = λ j a b d. let x = others s (omega ints) h j b d in let y = G.second in let z = R.is in omega ints;
        };
        best = W.best;
        second = G.second ∙ R.is;
      }

  -- the winner's own second is not below the next figure
  pub runs_own : s ≤ℤ t → Best f 0 (N * L) c t m
  runs_own h = record {
    largest = largest;
    runner = W.runner;
    next = record {
      from = omega arith;
      below = omega (arith, W.next.below, run_end pos k N G.largest.below);
      other = W.next.other;
      most = λ j a b d. let x = others t h (omega ints) j b d in let y = W.second in omega ints;
    };
    best = W.best;
    second = W.second;
  }
