-- The two least losses over the words of one parity, for a reading of any length. The word of the signs loses nothing; a word of the other
-- parity goes against at least one sign, and another word of the same parity against at least two. So two numbers carry it all, the two
-- least sizes, and they are kept up to date as the reading grows by one.
use mathlib.Core.Path.{◌≡◌, refl, sym, ap, ◌∙◌}
use mathlib.Core.Logic.{◌≢◌, ◌⊎◌, inl, inr}
use mathlib.Core.Bool.{Bool, true, false, not}
use mathlib.Core.List.{List, [], ◌∷◌}
use Prim.Native.Nat.{ℕ, suc, ◌+◌, ◌≤◌, ◌<◌}
use native.Mathlib.Omega.{arith}
use lib.IntN.{ℤ, pos, negsuc, nat_abs}
use lib.ListN.{length}
use Rattle.signed.specs.Sign.{sign, lo, signed}
use Rattle.signed.proofs.Parts.{lo-neg}
use Rattle.contest.specs.Words.{differ, odd}
use Rattle.contest.specs.Losses.{loss}
use Rattle.contest.specs.Signs.{At, Claim, State}

-- ---- one sign

with_sign : (f : ℤ) → lo (signed (sign f) f) ≡ 0
with_sign (pos n) = refl
with_sign (negsuc n) = refl

against_sign : (f : ℤ) → lo (signed (not (sign f)) f) ≡ nat_abs f
against_sign (pos n) = lo-neg (pos n)
against_sign (negsuc n) = refl

which : (t s : Bool) → (t ≡ s) ⊎ (t ≡ not s)
which false false = inl refl
which false true = inr refl
which true false = inr refl
which true true = inl refl

heads : (s : Bool) {x y : List Bool} → (s ∷ x) ≢ (not s ∷ y)
heads false e = let z : ◌≡◌ {A = ℕ} 0 1 = cc in omega arith
heads true e = let z : ◌≡◌ {A = ℕ} 0 1 = cc in omega arith

tails : {s t : Bool} {x y : List Bool} → x ≢ y → (s ∷ x) ≢ (t ∷ y)
tails n e = n (cc)

-- ---- parities, relative to another

differ_self : (q : Bool) → differ q q ≡ false
differ_self false = refl
differ_self true = refl

differ_near : (s x q : Bool) → differ (differ s x) (differ s q) ≡ differ x q
differ_near false x q = refl
differ_near true false false = refl
differ_near true false true = refl
differ_near true true false = refl
differ_near true true true = refl

differ-far : (s x q : Bool) → differ (differ (not s) x) (differ s q) ≡ not (differ x q)
differ-far false false false = refl
differ-far false false true = refl
differ-far false true false = refl
differ-far false true true = refl
differ-far true false false = refl
differ-far true false true = refl
differ-far true true false = refl
differ-far true true true = refl

differ_false : (x q : Bool) → differ x q ≡ false → x ≡ q
differ_false false false e = refl
differ_false false true e = sym e
differ_false true false e = e
differ_false true true e = refl

differ_true : (x q p : Bool) → differ x q ≡ true → p ≢ q → x ≡ p
differ_true false false p e n = absurd (n (cc))
differ_true false true false e n = refl
differ_true false true true e n = absurd (n refl)
differ_true true false false e n = absurd (n refl)
differ_true true false true e n = refl
differ_true true true p e n = absurd (n (cc))

differ-other : (x q : Bool) → x ≢ q → differ x q ≡ true
differ-other false false n = absurd (n refl)
differ-other false true n = refl
differ-other true false n = refl
differ-other true true n = absurd (n refl)

-- ---- of no numbers

pub empty : (M : ℕ) (o : List Bool) → State M [] M M [] o
empty M o = record {
  order = omega arith;
  top = omega arith;
  some = λ h. absurd (omega arith);
  full = λ h. absurd (omega arith);
  hard = record { long = refl; parity = refl; costs = refl };
  one = λ h. absurd (omega arith);
  second = [];
  two = λ h. absurd (omega arith);
  two-other = λ h. absurd (omega arith);
  pair = [];
  both = λ h. absurd (omega arith);
  both-other = λ h. absurd (omega arith);
  all = none;
}
  where
    none : (ts : List Bool) → length ts ≡ 0 → Claim [] M M [] o (differ (odd ts) false) ts
    none [] e = inl refl
    none (t ∷ ts) e = absurd (omega arith)

-- ---- one number more

module _ {fs : List ℤ} {q : Bool} (f : ℤ) where
  at_near : {d : Bool} {c : ℕ} {ts : List Bool} → At fs q d c ts → At (f ∷ fs) (differ (sign f) q) d c (sign f ∷ ts)
  at_near {ts = ts} t = record {
    long = ap suc t.long;
    parity = differ_near (sign f) (odd ts) q ∙ t.parity;
    costs = omega (arith, with_sign f, t.costs);
  }

  at-far : {d : Bool} {c e : ℕ} {ts : List Bool} → At fs q d c ts → e ≡ nat_abs f + c → At (f ∷ fs) (differ (sign f) q) (not d) e (not (sign f) ∷ ts)
  at-far {ts = ts} t e = record {
    long = ap suc t.long;
    parity = differ-far (sign f) (odd ts) q ∙ ap not t.parity;
    costs = omega (arith, against_sign f, t.costs);
  }

-- what the new a, b and o owe to the old ones and to the size x of the new number
record Update (x a b a' b' : ℕ) (s : Bool) (h o o' : List Bool) : Type 0 where
  low : a' ≤ a
  low_new : a' ≤ x
  sum : a' + b' ≤ a + b
  cross : a' + b' ≤ x + a
  less : b' ≤ b
  old : (o' ≡ (s ∷ o)) ⊎ (b' ≤ a)
  new : (o' ≡ (not s ∷ h)) ⊎ (b' ≤ x)

module _ {M : ℕ} {fs : List ℤ} {a b a' b' : ℕ} {h o o' : List Bool} (f : ℤ) (S : State M fs a b h o)
    (U : Update (nat_abs f) a b a' b' (sign f) h o o') where
  near : (d : Bool) (ts : List Bool) → Claim fs a b h o d ts → Claim (f ∷ fs) a' b' (sign f ∷ h) o' d (sign f ∷ ts)
  near false ts (inl e) = inl (ap (λ l. sign f ∷ l) e)
  near false ts (inr l) = inr (omega (arith, U.sum))
  near true ts (inl e) = go U.old
    where
      go : (o' ≡ (sign f ∷ o)) ⊎ (b' ≤ a) → Claim (f ∷ fs) a' b' (sign f ∷ h) o' true (sign f ∷ ts)
      go (inl g) = inl (cc e.0, omega (arith, U.low))
      go (inr g) = inr (omega arith)
  near true ts (inr l) = inr (omega (arith, U.less))

  far : (d : Bool) (ts : List Bool) → Claim fs a b h o d ts → Claim (f ∷ fs) a' b' (sign f ∷ h) o' (not d) (not (sign f) ∷ ts)
  far false ts (inl e) = go U.new
    where
      go : (o' ≡ (not (sign f) ∷ h)) ⊎ (b' ≤ nat_abs f) → Claim (f ∷ fs) a' b' (sign f ∷ h) o' true (not (sign f) ∷ ts)
      go (inl g) = inl (cc, omega (arith, against_sign f, U.low_new))
      go (inr g) = inr (omega (arith, against_sign f))
  far false ts (inr l) = inr (omega (arith, against_sign f, U.less))
  far true ts (inl e) = inr (omega (arith, against_sign f, U.cross))
  far true ts (inr l) = inr (omega (arith, against_sign f, U.cross, S.order))

  bounds : (ts : List Bool) → length ts ≡ suc (length fs) → Claim (f ∷ fs) a' b' (sign f ∷ h) o' (differ (odd ts) (differ (sign f) (odd h))) ts
  bounds [] e = absurd (omega arith)
  bounds (t ∷ ts) e = go (which t (sign f))
    where
      c : Claim fs a b h o (differ (odd ts) (odd h)) ts
      c = S.all ts (omega arith)

      go : (t ≡ sign f) ⊎ (t ≡ not (sign f)) → Claim (f ∷ fs) a' b' (sign f ∷ h) o' (differ (differ t (odd ts)) (differ (sign f) (odd h))) (t ∷ ts)
      go (inl g) = rw (g, differ_near (sign f) (odd ts) (odd h)) (near (differ (odd ts) (odd h)) ts c)
      go (inr g) = rw (g, differ-far (sign f) (odd ts) (odd h)) (far (differ (odd ts) (odd h)) ts c)

-- the new number is the least, or the second, or neither
module _ {M : ℕ} {fs : List ℤ} {a b : ℕ} {h o : List Bool} (f : ℤ) (S : State M fs a b h o) (fit : nat_abs f < M) where
  pub new-least : nat_abs f < a → State M (f ∷ fs) (nat_abs f) a (sign f ∷ h) (not (sign f) ∷ h)
  new-least l = record {
    order = omega arith;
    top = omega (arith, S.order, S.top);
    some = λ n. fit;
    full = λ n. S.some (omega arith);
    hard = at_near f S.hard;
    one = λ n. at-far f S.hard (omega arith);
    second = sign f ∷ o;
    two = λ n. at_near f (S.one n);
    two-other = λ n. heads (sign f);
    pair = not (sign f) ∷ o;
    both = λ n. at-far f (S.one n) refl;
    both-other = λ n e. heads (sign f) (sym e);
    all = bounds f S (record {
      low = omega arith;
      low_new = omega arith;
      sum = omega (arith, S.order);
      cross = omega arith;
      less = S.order;
      old = inr (omega arith);
      new = inl refl;
    });
  }

  pub new-second : a ≤ nat_abs f → nat_abs f < b → State M (f ∷ fs) a (nat_abs f) (sign f ∷ h) (sign f ∷ o)
  new-second g l = record {
    order = g;
    top = omega arith;
    some = λ n. omega arith;
    full = λ n. fit;
    hard = at_near f S.hard;
    one = λ n. at_near f (S.one n);
    second = not (sign f) ∷ h;
    two = λ n. at-far f S.hard (omega arith);
    two-other = λ n e. heads (sign f) (sym e);
    pair = not (sign f) ∷ o;
    both = λ n. at-far f (S.one (omega arith)) (omega arith);
    both-other = λ n e. heads (sign f) (sym e);
    all = bounds f S (record {
      low = omega arith;
      low_new = g;
      sum = omega arith;
      cross = omega arith;
      less = omega arith;
      old = inl refl;
      new = inr (omega arith);
    });
  }

  pub new-neither : b ≤ nat_abs f → State M (f ∷ fs) a b (sign f ∷ h) (sign f ∷ o)
  new-neither l = record {
    order = S.order;
    top = S.top;
    some = λ n. omega (arith, S.order);
    full = λ n. omega arith;
    hard = at_near f S.hard;
    one = λ n. at_near f (S.one n);
    second = sign f ∷ S.second;
    two = λ n. at_near f (S.two n);
    two-other = λ n. tails (S.two-other n);
    pair = sign f ∷ S.pair;
    both = λ n. at_near f (S.both n);
    both-other = λ n. tails (S.both-other n);
    all = bounds f S (record {
      low = omega arith;
      low_new = omega (arith, S.order);
      sum = omega arith;
      cross = omega arith;
      less = omega arith;
      old = inl refl;
      new = inr l;
    });
  }

-- ---- the words of one parity, ranked

-- of the words of parity p, w loses the least and v the next
pub record Ranked (fs : List ℤ) (p : Bool) (w v : List Bool) : Type 0 where
  pub long : length w ≡ length fs
  pub parity : odd w ≡ p
  pub runner-long : length v ≡ length fs
  pub runner-parity : odd v ≡ p
  pub other : v ≢ w
  pub ahead : loss w fs ≤ loss v fs
  pub others : (ts : List Bool) → length ts ≡ length fs → odd ts ≡ p → (ts ≡ w) ⊎ (loss v fs ≤ loss ts fs)

module _ {M : ℕ} {fs : List ℤ} {a b : ℕ} {h o : List Bool} (S : State M fs a b h o) (n : 2 ≤ length fs) where
  pub rank_same : Ranked fs (odd h) h S.pair
  rank_same =
      let m = S.full n in
      record {
        long = S.hard.long;
        parity = refl;
        runner-long = (S.both m).long;
        runner-parity = differ_false _ _ (S.both m).parity;
        other = S.both-other m;
        ahead = omega (arith, S.hard.costs);
        others = λ ts l e.
            let c : Claim fs a b h o false ts = rw (e, differ_self (odd h)) at (S.all ts l) in
            go ts c;
      }
    where
      go : (ts : List Bool) → Claim fs a b h o false ts → (ts ≡ h) ⊎ (loss S.pair fs ≤ loss ts fs)
      go ts (inl e) = inl e
      go ts (inr l) = inr (omega (arith, (S.both (S.full n)).costs))

  pub rank_other : (p : Bool) → p ≢ odd h → Ranked fs p o S.second
  rank_other p d =
      let m = S.full n in
      let O = S.one (omega (arith, S.order)) in
      record {
        long = O.long;
        parity = differ_true _ _ p O.parity d;
        runner-long = (S.two m).long;
        runner-parity = differ_true _ _ p (S.two m).parity d;
        other = S.two-other m;
        ahead = omega (arith, O.costs, (S.two m).costs, S.order);
        others = λ ts l e.
            let c : Claim fs a b h o true ts = rw (e, differ-other p (odd h) d) at (S.all ts l) in
            go ts c;
      }
    where
      go : (ts : List Bool) → Claim fs a b h o true ts → (ts ≡ o) ⊎ (loss S.second fs ≤ loss ts fs)
      go ts (inl e) = inl e.0
      go ts (inr l) = inr (omega (arith, (S.two (S.full n)).costs))
