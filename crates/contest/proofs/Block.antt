-- The words of one parity as a block of numbers: the two largest correlations among them, from the two least sizes of the reading.
use mathlib.Core.Path.{◌≡◌, sym, ap, ◌∙◌}
use mathlib.Core.Logic.{◌≢◌, ◌⊎◌, inl, inr}
use mathlib.Core.Bool.{Bool}
use mathlib.Core.List.{List}
use Prim.Native.Nat.{ℕ, suc, ◌+◌, ◌-◌, ◌/◌, ◌*◌, ◌^◌, ◌≤◌, ◌<◌}
use native.Mathlib.Omega.{arith}
use native.Mathlib.Decide.{ℕ_discrete}
use lib.IntN.{ℤ, pos, ◌-ℤ◌, +ℤ_idr}
use lib.ListN.{length}
use lib.Signed.{◌≤ℤ◌, ≤ℤ_refl}
use Rattle.signed.proofs.Parts.{ints, parts, parts_eq}
use Rattle.contest.specs.Words.{odd}
use Rattle.contest.specs.Readings.{correlation}
use Rattle.contest.specs.Largest.{Best}
use Rattle.contest.specs.Losses.{loss, weight}
use Rattle.contest.proofs.Loss.{level}
use Rattle.contest.specs.Numbers.{val, tops}
use Rattle.contest.specs.Signs.{At, State}
use Rattle.contest.proofs.Signs.{Ranked, rank_same, rank_other}
use Rattle.contest.proofs.Numbers.{bits-long, tops-odd, val-tops, tops-val, val-half}

-- f has, from i on, the correlations of the words of n + 1 bits of parity p
module _ (f : ℕ → ℤ) (n i : ℕ) {fs : List ℤ} {p : Bool} {w v : List Bool} (long : length fs ≡ suc n) (R : Ranked fs p w v)
    (is : (j : ℕ) → j < 2 ^ n → f (i + j) ≡ correlation (tops n p j) fs) where
  word : (ts : List Bool) → length ts ≡ length fs → odd ts ≡ p → tops n p (val ts / 2) ≡ ts
  word ts e q = rw (← q) (tops-val ts (e ∙ long))

  at : (ts : List Bool) → length ts ≡ length fs → odd ts ≡ p → f (i + val ts / 2) ≡ correlation ts fs
  at ts e q = is (val ts / 2) (val-half ts (e ∙ long)) ∙ ap (λ (l : List Bool). correlation l fs) (word ts e q)

  others : (j : ℕ) → j < 2 ^ n → (i + j) ≢ (i + val w / 2) → f (i + j) ≤ℤ correlation v fs
  others j h d = rw (is j h) (go (R.others ts l (tops-odd n p j)))
    where
      ts : List Bool
      ts = tops n p j

      l : length ts ≡ length fs
      l = ap suc (bits-long n j) ∙ sym long

      go : (ts ≡ w) ⊎ (loss v fs ≤ loss ts fs) → correlation ts fs ≤ℤ correlation v fs
      go (inl e) = absurd (d (ap (λ (x : ℕ). i + x) (sym (val-tops n p j h) ∙ ap (λ (x : List Bool). val x / 2) e)))
      go (inr g) = omega (ints, level ts fs l, level v fs R.runner-long)

  ahead : correlation v fs ≤ℤ correlation w fs
  ahead = omega (ints, R.ahead, level w fs R.long, level v fs R.runner-long)

  -- the same, at a number from i on
  above : (k : ℕ) → i ≤ k → k < i + 2 ^ n → k ≢ (i + val w / 2) → f k ≤ℤ correlation v fs
  above k a b d =
      let e : i + (k - i) ≡ k = omega arith in
      let g : (i + (k - i)) ≢ (i + val w / 2) → f (i + (k - i)) ≤ℤ correlation v fs = others (k - i) (omega arith) in
      (rw e at g) d

  pub block : Best f i (i + 2 ^ n) (correlation w fs) (correlation v fs) (i + val w / 2)
  block =
      let b = at w R.long R.parity in
      let s = at v R.runner-long R.runner-parity in
      record {
        largest = record {
          from = omega arith;
          below = omega (arith, val-half w (R.long ∙ long));
          most = λ k x y. most k x y (ℕ_discrete k (i + val w / 2));
        };
        runner = i + val v / 2;
        next = record {
          from = omega arith;
          below = omega (arith, val-half v (R.runner-long ∙ long));
          other = λ e. R.other (same e);
          most = λ k x y d. rw s (above k x y d);
        };
        best = sym b;
        second = sym s;
      }
    where
      most : (k : ℕ) → i ≤ k → k < i + 2 ^ n → Dec (k ≡ i + val w / 2) → f k ≤ℤ f (i + val w / 2)
      most k x y (yes e) = rw e (≤ℤ_refl (f (i + val w / 2)))
      most k x y (no d) = let g = above k x y d in let h = ahead in let e = at w R.long R.parity in omega ints

      same : i + val v / 2 ≡ i + val w / 2 → v ≡ w
      same e =
          let g : val v / 2 ≡ val w / 2 = omega arith in
          sym (word v R.runner-long R.runner-parity) ∙ ap (tops n p) g ∙ word w R.long R.parity

-- a word's correlation, by its loss
value : (fs : List ℤ) {ts : List Bool} {q d : Bool} {c : ℕ} → At fs q d c ts → correlation ts fs ≡ pos (weight fs) -ℤ pos (2 * c)
value fs {ts} t = parts_eq _ _ (simp parts (omega (arith, level ts fs t.long, t.costs)))

-- a block's two largest
module _ (f : ℕ → ℤ) (n i : ℕ) {M : ℕ} {fs : List ℤ} {a b : ℕ} {h o : List Bool} {p : Bool} (S : State M fs a b h o) (two : 2 ≤ length fs)
    (long : length fs ≡ suc n) (is : (j : ℕ) → j < 2 ^ n → f (i + j) ≡ correlation (tops n p j) fs) where
  pub best-same : odd h ≡ p → Best f i (i + 2 ^ n) (pos (weight fs)) (pos (weight fs) -ℤ pos (2 * (a + b))) (i + val h / 2)
  best-same e =
      let R : Ranked fs p h S.pair = rw e at (rank_same S two) in
      rw (value fs S.hard, +ℤ_idr, value fs (S.both (S.full two))) at (block f n i long R is)

  pub best-other : p ≢ odd h → Best f i (i + 2 ^ n) (pos (weight fs) -ℤ pos (2 * a)) (pos (weight fs) -ℤ pos (2 * b)) (i + val o / 2)
  best-other d =
      let R : Ranked fs p o S.second = rank_other S two p d in
      rw (value fs (S.one (omega (arith, S.order, S.full two))), value fs (S.two (S.full two))) at (block f n i long R is)
