-- What a class's columns come to, column by column, and its two largest from that; its sums in the array of all.
use mathlib.Core.Path.{◌≡◌, refl, sym, ap, ◌∙◌}
use mathlib.Core.Logic.{◌≢◌}
use mathlib.Core.Bool.{Bool, not}
use mathlib.Core.List.{List, [], ◌∷◌}
use Prim.Native.Nat.{ℕ, suc, ◌+◌, ◌-◌, ◌*◌, ◌/◌, ◌%◌, ◌^◌, ◌≤◌, ◌<◌, min}
use native.Mathlib.Nat.{min-eq_left, min-eq_right}
use native.Mathlib.Omega.{arith}
use native.Mathlib.Decide.{dec_lt}
use lib.Dec.{eqb}
use lib.Pow.{pow_mono}
use lib.IntN.{ℤ, pos, nat_abs, ◌-ℤ◌}
use lib.ListN.{length}
use Rattle.signed.specs.Sign.{sign}
use Rattle.signed.proofs.Parts.{ints}
use Rattle.contest.specs.Words.{one, odd}
use Rattle.contest.specs.Readings.{correlation, scores}
use Rattle.contest.specs.Largest.{Best}
use Rattle.contest.specs.declared.Keeper.{Keeper}
use Rattle.contest.specs.Numbers.{val, tops}
use Rattle.contest.specs.Signs.{State}
use Rattle.contest.proofs.Signs.{new-least, new-second, new-neither}
use Rattle.contest.proofs.Numbers.{one_small, one-not, one-differ, bit-same, bit-other, val_small}
use Rattle.contest.proofs.Block.{best-same, best-other}
use Rattle.classes.specs.Codewords.{word}
use Rattle.classes.specs.Classes.{classes, parity_of, characters_of}
use Rattle.classes.proofs.Classes.{in_class_lem}
use Rattle.columns.specs.Columns.{Sums, picks, far}
use Rattle.columns.proofs.Picking.{picks_are}
use Rattle.details.specs.Details.{Held, Few, Tops, in_class}
use Rattle.details.specs.declared.Sizes.{Sizes}

-- ---- one column more

module _ {fs : List ℤ} {t : Sizes} {f : ℤ} {x s : ℕ} (H : Held fs t) (bound : nat_abs f ≤ 8589934592) (X : x ≡ nat_abs f) (S : s ≡ one (sign f)) where
  grown : {a b m : ℕ} {o : List Bool} → State far (f ∷ fs) a b (sign f ∷ H.signs) o → length o ≡ suc (length fs) → m ≡ val o
      → Held (f ∷ fs) (record { total = t.total + x; least = a; next = b; odd = (t.odd + s) % 2; signs = 2 * t.signs + s; other = m })
  grown {o = o} q l e = record {
    signs = sign f ∷ H.signs;
    other = o;
    state = q;
    other-long = l;
    total-is = omega (arith, H.total-is);
    bound = omega (arith, H.bound);
    odd_is = rw (S, H.odd_is) (one-differ (sign f) (odd H.signs));
    signs-is = rw (S, H.signs-is) refl;
    other-is = e;
  }

  pub column-least : x < t.least
      → Held (f ∷ fs)
      (record { total = t.total + x; least = x; next = t.least; odd = (t.odd + s) % 2; signs = 2 * t.signs + s; other = 2 * t.signs + (1 - s) })
  column-least h =
      grown {o = not (sign f) ∷ H.signs} (rw X (new-least f H.state (omega arith) (omega arith))) (ap suc H.state.hard.long)
      (rw (S, H.signs-is, one-not (sign f)) refl)

  pub column-other : {m : ℕ} → t.least ≤ x → m ≡ min x t.next
      → Held (f ∷ fs)
      (record { total = t.total + x; least = t.least; next = m; odd = (t.odd + s) % 2; signs = 2 * t.signs + s; other = 2 * t.other + s })
  column-other {m} g e = go (dec_lt x t.next)
    where
      grow : {b : ℕ} → m ≡ b → State far (f ∷ fs) t.least b (sign f ∷ H.signs) (sign f ∷ H.other)
          → Held (f ∷ fs)
          (record { total = t.total + x; least = t.least; next = m; odd = (t.odd + s) % 2; signs = 2 * t.signs + s; other = 2 * t.other + s })
      grow p q = rw p (grown q (ap suc H.other-long) (rw (S, H.other-is) refl))

      go : Dec (x < t.next)
          → Held (f ∷ fs)
          (record { total = t.total + x; least = t.least; next = m; odd = (t.odd + s) % 2; signs = 2 * t.signs + s; other = 2 * t.other + s })
      go (yes l) =
          let p : x ≤ t.next = omega arith in
          grow (e ∙ min-eq_left p ∙ X) (new-second f H.state (omega arith) (omega arith) (omega arith))
      go (no n) =
          let p : t.next ≤ x = omega arith in
          grow (e ∙ min-eq_right p) (new-neither f H.state (omega arith) (omega arith))

-- ---- bounds

val-below : (fs : List ℤ) (n : ℕ) (bs : List Bool) → length bs ≡ length fs → length fs ≤ n → val bs < 2 ^ n
val-below fs n bs e h = let g : length bs ≤ n = omega arith in omega (arith, val_small bs, pow_mono g)

pub few : {fs : List ℤ} {t : Sizes} (n : ℕ) → Held fs t → length fs ≤ n → n ≤ 6 → Few n t
few {fs} {t} n H h six = record {
  total = omega (arith, H.total-is, H.bound);
  least = omega (arith, H.state.order, H.state.top);
  next = H.state.top;
  odd = rw H.odd_is (one_small (odd H.signs));
  signs = omega (arith, H.signs-is, val-below fs 6 H.signs H.state.hard.long (omega arith));
  other = omega (arith, H.other-is, val-below fs 6 H.other H.other-long (omega arith));
}

-- ---- a class settled

module _ (t : Sizes) (p base : ℕ) (f : ℕ → ℤ) (fs : List ℤ) (H : Held fs t) (six : length fs ≡ 6)
    (is : (j : ℕ) → j < 32 → f (base + j) ≡ correlation (tops 5 (eqb p 1) j) fs) where
  pub settle_same : t.odd ≡ p → Best f base (base + 32) (pos t.total) (pos t.total -ℤ pos (2 * (t.least + t.next))) (base + t.signs / 2)
  settle_same e =
      rw (H.total-is, H.signs-is)
      (best-same f 5 base H.state (omega arith) six is (bit-same (odd H.signs) p (sym H.odd_is ∙ e)))

  pub settle_other : p < 2 → t.odd ≢ p
      → Best f base (base + 32) (pos t.total -ℤ pos (2 * t.least)) (pos t.total -ℤ pos (2 * t.next)) (base + t.other / 2)
  settle_other h d =
      rw (H.total-is, H.other-is)
      (best-other f 5 base H.state (omega arith) six is (bit-other (odd H.signs) p h (λ e. d (H.odd_is ∙ e))))

-- ---- a class of the reading's sums

pub picks-long : (s : List ℤ) (p : ℕ) (cs : List ℕ) → length (picks s p cs) ≡ length cs
picks-long s p [] = refl
picks-long s p (x ∷ cs) = ap suc (picks-long s p cs)

pub picks-six : (s : List ℤ) (k : ℕ) → length (picks s (parity_of k) (characters_of k)) ≡ 6
unfolding characters_of
picks-six s k = refl

-- word j of class k
pub in_order : (s : List ℤ) (k j : ℕ) → j < 32
    → in_class s k (k * 32 + j) ≡ correlation (tops 5 (eqb (parity_of k) 1) j) (picks s (parity_of k) (characters_of k))
in_order s k j h =
    let e : (k * 32 + j) % 32 ≡ j = omega arith in
    ap (λ (n : ℕ). correlation (tops 5 (eqb (parity_of k) 1) n) (picks s (parity_of k) (characters_of k))) e

-- the two largest of values are those of others that are the same
along : {f g : ℕ → ℤ} {i j : ℕ} → ((m : ℕ) → i ≤ m → m < j → f m ≡ g m) → {b s : ℤ} {m : ℕ} → Best f i j b s m → Best g i j b s m
along {f} {g} {i} {j} is {m = m} A =
    let e = is m A.largest.from A.largest.below in
    let n = is A.runner A.next.from A.next.below in
    record {
      largest = record {
        from = A.largest.from;
        below = A.largest.below;
        most = λ k a b. let h = A.largest.most k a b in let v = is k a b in omega ints;
      };
      runner = A.runner;
      next = record {
        from = A.next.from;
        below = A.next.below;
        other = A.next.other;
        most = λ k a b d. let h = A.next.most k a b d in let v = is k a b in omega ints;
      };
      best = A.best ∙ e;
      second = A.second ∙ n;
    }

-- of the sums of a reading they are those of its own correlations
module _ {xs s : List ℤ} (long : length xs ≡ 24) (S : Sums xs s) (k : ℕ) (known : k < classes) where
  class_is : (m : ℕ) → k * 32 ≤ m → m < k * 32 + 32 → in_class s k m ≡ scores word xs m
  class_is m a b =
      let e : k * 32 + m % 32 ≡ m = omega arith in
      rw (picks_are xs s S k) (sym (in_class_lem xs long k known (m % 32) (omega arith)) ∙ ap (scores word xs) e)

  pub class_tops : {t : Keeper} → Tops (in_class s k) (k * 32) (k * 32 + 32) t → Tops (scores word xs) (k * 32) (k * 32 + 32) t
  class_tops = along class_is
