-- The largest correlation among the words of one parity: all the sizes where the signs have that parity, and twice the least size less where
-- they have the other.
use mathlib.Core.Path.{◌≡◌, refl, sym, ap, ◌∙◌}
use mathlib.Core.Logic.{◌≢◌, ◌⊎◌, inl, inr}
use mathlib.Core.Bool.{Bool, true, false, cond}
use mathlib.Core.List.{List, [], ◌∷◌}
use Prim.Native.Nat.{ℕ, suc, ◌+◌, ◌*◌, ◌^◌, ◌≤◌, ◌<◌, min}
use native.Mathlib.Nat.{min-eq_left, min-eq_right}
use native.Mathlib.Omega.{arith}
use native.Mathlib.Decide.{dec_lt}
use lib.IntN.{ℤ, pos, negsuc, nat_abs, ◌-ℤ◌}
use lib.ListN.{length}
use Rattle.signed.specs.Sign.{sign}
use Rattle.signed.proofs.Parts.{ints, parts, parts_eq, hi-neg, lo-neg}
use Rattle.contest.specs.Words.{differ, odd}
use Rattle.contest.specs.Readings.{InRange, correlation}
use Rattle.contest.specs.Losses.{weight}
use Rattle.contest.specs.Numbers.{tops}
use Rattle.contest.specs.Signs.{State}
use Rattle.contest.specs.Figures.{signs, least, charged, reached, Favours, Favoured}
use Rattle.contest.proofs.Signs.{empty, new-least, new-second, new-neither}
use Rattle.contest.proofs.Block.{best-same, best-other}
use Rattle.contest.proofs.Runs.{Figure}

-- ---- the figure

-- a state that has come by all of the reading, with M above every size
record Come (M : ℕ) (a : ℕ) (fs : List ℤ) : Type 0 where
  b : ℕ
  o : List Bool
  state : State M fs a b (signs fs) o

step : {M a : ℕ} {fs : List ℤ} (f : ℤ) → nat_abs f < M → Come M a fs → Come M (min (nat_abs f) a) (f ∷ fs)
step {M} {a} {fs} f h C = go (dec_lt (nat_abs f) a) (dec_lt (nat_abs f) C.b)
  where
    go : Dec (nat_abs f < a) → Dec (nat_abs f < C.b) → Come M (min (nat_abs f) a) (f ∷ fs)
    go (yes l) d =
        let e : nat_abs f ≤ a = omega arith in
        rw (min-eq_left e) (record { b = a; o = _; state = new-least f C.state h l })
    go (no n) (yes l) =
        let e : a ≤ nat_abs f = omega arith in
        rw (min-eq_right e) (record { b = nat_abs f; o = _; state = new-second f C.state h e l })
    go (no n) (no k) =
        let e : a ≤ nat_abs f = omega arith in
        rw (min-eq_right e) (record { b = C.b; o = _; state = new-neither f C.state h (omega arith) })

come : (B : ℕ) (f : ℤ) (fs : List ℤ) → InRange B (f ∷ fs) → Come (suc B) (least f fs) (f ∷ fs)
unfolding InRange
come B f [] r =
    let h : nat_abs f < suc B = omega (arith, r.0.within) in
    let e : nat_abs f ≤ suc B = omega arith in
    rw (min-eq_left e) at (step f h (record { b = suc B; o = []; state = empty (suc B) [] }))
come B f (g ∷ fs) r = step f (omega (arith, r.0.within)) (come B g fs r.1)

apart : false ≡ true → ⊥
apart e = let z : ◌≡◌ {A = ℕ} 0 1 = cc in omega arith

module _ (F : ℕ → ℤ) (n i B : ℕ) {p : Bool} (f : ℤ) (fs : List ℤ) (range : InRange B (f ∷ fs)) (long : length fs ≡ n) (two : 1 ≤ n)
    (is : (j : ℕ) → j < 2 ^ n → F (i + j) ≡ correlation (tops n p j) (f ∷ fs)) where
  pub figure-same : odd (signs (f ∷ fs)) ≡ p → Figure F i (i + 2 ^ n) (pos (weight (f ∷ fs)))
  figure-same e =
      let C = come B f fs range in
      let G = best-same F n i C.state (omega arith) (ap suc long) is e in
      record { at = _; largest = G.largest; is = G.best }

  pub figure-other : p ≢ odd (signs (f ∷ fs)) → Figure F i (i + 2 ^ n) (pos (weight (f ∷ fs)) -ℤ pos (2 * least f fs))
  figure-other d =
      let C = come B f fs range in
      let G = best-other F n i C.state (omega arith) (ap suc long) is d in
      record { at = _; largest = G.largest; is = G.best }

-- either, as one formula
module _ (F : ℕ → ℤ) (n i B : ℕ) (p : Bool) (f : ℤ) (fs : List ℤ) (range : InRange B (f ∷ fs)) (long : length fs ≡ n) (two : 1 ≤ n)
    (is : (j : ℕ) → j < 2 ^ n → F (i + j) ≡ correlation (tops n p j) (f ∷ fs)) where
  pub figure-reached : Figure F i (i + 2 ^ n) (reached p f fs)
  figure-reached = go p (odd (signs (f ∷ fs))) refl refl
    where
      go : (q o : Bool) → q ≡ p → odd (signs (f ∷ fs)) ≡ o
          → Figure F i (i + 2 ^ n) (cond (differ q o) (pos (weight (f ∷ fs)) -ℤ pos (2 * least f fs)) (pos (weight (f ∷ fs))))
      go false false e o = figure-same F n i B f fs range long two is (o ∙ e)
      go false true e o = figure-other F n i B f fs range long two is (λ d. apart (e ∙ d ∙ o))
      go true false e o = figure-other F n i B f fs range long two is (λ d. apart (sym o ∙ sym d ∙ sym e))
      go true true e o = figure-same F n i B f fs range long two is (o ∙ e)

-- ---- a zero counts as either

own : (f : ℤ) (b : Bool) → Favours f b → (b ≡ sign f) ⊎ (nat_abs f ≡ 0)
own (pos n) false h = inl refl
own (pos n) true h = inr (omega (ints, hi-neg (pos n), lo-neg (pos n)))
own (negsuc n) false h = absurd (omega ints)
own (negsuc n) true h = inl refl

-- favoured bits are the signs, or the least of the sizes is zero
signs-or_zero : (f : ℤ) (fs : List ℤ) (bs : List Bool) → Favoured (f ∷ fs) bs → (bs ≡ signs (f ∷ fs)) ⊎ (least f fs ≡ 0)
unfolding Favoured
signs-or_zero f fs [] h = absurd h
signs-or_zero f [] (b ∷ bs) h = go (own f b h.0)
  where
    go : (b ≡ sign f) ⊎ (nat_abs f ≡ 0) → (b ∷ bs ≡ sign f ∷ []) ⊎ (nat_abs f ≡ 0)
    go (inl s) = inl (rw (s, h.1) refl)
    go (inr z) = inr z
signs-or_zero f (g ∷ fs) (b ∷ bs) h = go (own f b h.0) (signs-or_zero g fs bs h.1)
  where
    go : (b ≡ sign f) ⊎ (nat_abs f ≡ 0) → (bs ≡ signs (g ∷ fs)) ⊎ (least g fs ≡ 0)
        → (b ∷ bs ≡ signs (f ∷ g ∷ fs)) ⊎ (min (nat_abs f) (least g fs) ≡ 0)
    go (inl s) (inl e) = inl (rw (s, e) refl)
    go (inr z) d = inr (rw z (min-eq_left (omega arith)))
    go (inl s) (inr z) = inr (rw z (min-eq_right (omega arith)))

-- Rule 8.5: whichever bits are favoured, the figure is the same
pub reached_either : (p : Bool) (f : ℤ) (fs : List ℤ) (bs : List Bool) → Favoured (f ∷ fs) bs → reached p f fs ≡ charged p bs f fs
reached_either p f fs bs h = go (signs-or_zero f fs bs h)
  where
    -- where the least is zero nothing is taken off
    whole : (b : Bool) → least f fs ≡ 0 → cond b (pos (weight (f ∷ fs)) -ℤ pos (2 * least f fs)) (pos (weight (f ∷ fs))) ≡ pos (weight (f ∷ fs))
    whole false z = refl
    whole true z = rw z (parts_eq _ _ (simp parts (omega arith)))

    go : (bs ≡ signs (f ∷ fs)) ⊎ (least f fs ≡ 0) → reached p f fs ≡ charged p bs f fs
    go (inl e) = ap (λ (cs : List Bool). charged p cs f fs) (sym e)
    go (inr z) = whole (differ p (odd (signs (f ∷ fs)))) z ∙ sym (whole (differ p (odd bs)) z)
