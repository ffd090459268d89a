-- What the promise of `largest_figures` says of a reading: a class's figure is the largest correlation of its words, and what is kept of the
-- figures are the two largest.
use mathlib.Core.Path.{◌≡◌, subst}
use mathlib.Core.Bool.{Bool, true, false, cond}
use mathlib.Core.List.{List, [], ◌∷◌}
use Prim.Native.Nat.{ℕ, ◌+◌, ◌*◌, ◌≤◌, ◌<◌}
use native.Mathlib.Omega.{arith}
use lib.Dec.{eqb, lit≤}
use lib.IntN.{ℤ, pos, ◌-ℤ◌}
use lib.ListN.{length}
use Rattle.signed.specs.Within.{Within}
use Rattle.signed.proofs.Bounds.{within-pos, within-sub, within_le}
use Rattle.contest.specs.Words.{differ, odd}
use Rattle.contest.specs.Readings.{scores}
use Rattle.contest.specs.Largest.{Best}
use Rattle.contest.specs.Kept.{Kept, run}
use Rattle.contest.specs.declared.Keeper.{Keeper}
use Rattle.contest.specs.Losses.{weight}
use Rattle.contest.specs.Figures.{signs, least, reached}
use Rattle.contest.proofs.Runs.{Figure}
use Rattle.classes.specs.Codewords.{word}
use Rattle.classes.specs.Classes.{classes, parity_of, characters_of, reached_of, reached_figure}
use Rattle.classes.proofs.Figures.{class_reached}
use Rattle.columns.specs.Columns.{SumsWithin, place, Sums, picks, far}
use Rattle.columns.proofs.Picking.{picks_are}
use Rattle.figures.specs.Figures.{Codes, figure_at, KeptUpTo, reached_from}
use Rattle.figures.proofs.Scoring.{codes_reach}
use Rattle.figures.proofs.Keeping.{two-kept}

-- ---- how large a figure gets

weight-within : (s : List ℤ) → SumsWithin s → (p : ℕ) (cs : List ℕ) → weight (picks s p cs) ≤ length cs * 8589934592
weight-within s w p [] = omega arith
weight-within s w p (x ∷ cs) = omega (arith, (w (place (length cs) p x)).within, weight-within s w p cs)

least-weight : (f : ℤ) (fs : List ℤ) → least f fs ≤ weight (f ∷ fs)
least-weight f [] = omega arith
least-weight f (g ∷ fs) = omega arith

reached-size : (p : Bool) (f : ℤ) (fs : List ℤ) → Within (3 * weight (f ∷ fs)) (reached p f fs)
reached-size p f fs = go (differ p (odd (signs (f ∷ fs))))
  where
    go : (b : Bool) → Within (3 * weight (f ∷ fs)) (cond b (pos (weight (f ∷ fs)) -ℤ pos (2 * least f fs)) (pos (weight (f ∷ fs))))
    go true =
        within_le
        (within-sub (within-pos {m = weight (f ∷ fs)} {n = weight (f ∷ fs)} (omega arith))
        (within-pos {m = 2 * least f fs} {n = 2 * weight (f ∷ fs)} (omega (arith, least-weight f fs))))
        (omega arith)
    go false = within-pos (omega arith)

reached_list : (p : Bool) (fs : List ℤ) → Within (3 * weight fs) (reached_of p fs)
reached_list p [] = within-pos (omega arith)
reached_list p (f ∷ fs) = reached-size p f fs

reached-within : (s : List ℤ) → SumsWithin s → (k : ℕ) → Within far (reached_from s k)
unfolding reached_from characters_of
reached-within s w k =
    within_le (reached_list (eqb (parity_of k) 1) (picks s (parity_of k) (characters_of k))) (omega (arith, weight-within s w (parity_of k) (characters_of k)))

-- ---- the figures of all classes

-- of the codes and of the sums
pub kept-reached : {s : List ℤ} {e : List ℕ} {t : Keeper} → Codes s e → KeptUpTo (figure_at e) classes t → Kept (run (reached_from s) classes) t
kept-reached {s} {t = t} C K = subst (λ (f : ℕ → ℤ). Kept (run f classes) t) (λ i k. codes_reach s C k i) (K.some (lit≤ tt))

pub largest-two : (s : List ℤ) {t : Keeper} → SumsWithin s → Kept (run (reached_from s) classes) t
    → Best (reached_from s) 0 classes t.best t.second t.at
largest-two s w = two-kept (lit≤ tt) (reached-within s w)

pub class_largest : {xs s : List ℤ} → Sums xs s → length xs ≡ 24 → (k : ℕ) → k < classes
    → Figure (scores word xs) (k * 32) (k * 32 + 32) (reached_from s k)
unfolding reached_from reached_figure
class_largest {xs} {s} S long k h = rw (picks_are xs s S k) (class_reached xs long k h)
