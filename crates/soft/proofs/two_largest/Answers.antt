-- The two largest figures, and the winning class's own two, decide.
use Rattle.std.proofs.Common.{rules, ◌≡◌, ℤ, ◌≤ℤ◌, Bool, true, false, cond, refl, w64, FitsSigned, lit<}
use Rattle.std.specs.Int.{int_max}
use Rattle.std.proofs.Math.Facts.{to_z-of_z}
use lib.Signed.{lt_z}
use Rattle.signed.proofs.Parts.{ints, lt_true, lt_false}
use Rattle.contest.specs.Readings.{scores}
use Rattle.contest.specs.Largest.{Best}
use Rattle.contest.proofs.Runs.{runs_next, runs_own}
use Rattle.code.specs.Code.{messages}
use Rattle.classes.specs.Codewords.{word}
use Rattle.details.proofs.Sizing.{class_tops}
use Rattle.figures.proofs.Reaching.{largest-two, class_largest}
use Rattle.soft.proofs.two_largest.Goals as goal

-- what holds of each of two numbers where it is the larger holds of the larger
larger : (P : ℤ → Type 0) (x y : ℤ) → (y ≤ℤ x → P x) → (x ≤ℤ y → P y) → P (int_max x y)
larger P x y p q = go (lt_z y x) refl
  where
    go : (b : Bool) → lt_z y x ≡ b → P (cond b x y)
    go true e = let h = lt_true y x e in p (omega ints)
    go false e = q (lt_false y x e)

pub class_best-own-requires : goal.class_best-own-requires
class_best-own-requires c = (largest-two c.args.sums.now.values c.args.sums.now.within c.largest_figures-figures.ensures).largest.below

pub returns : goal.returns
returns c xs e S =
    let own = c.class_best-own.result in
    let next = c.largest_figures-figures.result.second in
    let fitted : FitsSigned w64 c.class_best-own.result.best = search rules in
    let own_fits : FitsSigned w64 c.class_best-own.result.second = search rules in
    let next_fits : FitsSigned w64 c.largest_figures-figures.result.second = search rules in
    let max_fits : FitsSigned w64 c.max.result = search rules in
    let f = largest-two c.args.sums.now.values c.args.sums.now.within c.largest_figures-figures.ensures in
    let top = class_tops e S _ f.largest.below c.class_best-own.ensures in
    rw
    (to_z-of_z fitted, to_z-of_z max_fits, rw (to_z-of_z own_fits, to_z-of_z next_fits) at c.max.ensures.value)
    (larger (λ (s : ℤ). Best (scores word xs) 0 messages own.best s own.at) own.second next
    (runs_own (lit< tt) (class_largest S e) f top)
    (runs_next (lit< tt) (class_largest S e) f top))
