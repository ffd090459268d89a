-- The contracts of `decide` and of `fillings`, of a reading that is whole.
-- Assumes nothing.
use Rattle.std.proofs.Common.{◌∙◌, ap, sym, subst, List, ℕ, ℤ}
use native.Mathlib.Nat.{mod-eq_of_lt}
use Rattle.signs.specs.Signs.{whole, sign_word}
use Rattle.signs.proofs.Whole.{whole-itself}
use Rattle.decision.specs.Decision.{decision_answer, Decides}
use Rattle.quick.specs.Quick.{quick_answer, Settles, QuickRule}
use Rattle.quick.proofs.Rules.{tied_refused, quick-signs, quick_settles}
use Rattle.quick.proofs.quick.Goals as goal

pub returns-then-clear : goal.returns-then-clear
returns-then-clear c =
    let xs = c.args.reading.now in
    let l = c.if-reading-ne-POSITIONS.false in
    let w = whole-itself 24 xs l in
    let e = mod-eq_of_lt c.sign_word.ensures.1 ∙ c.sign_word.ensures.0 ∙ ap sign_word w in
    let a = decision_answer c.decide.result in
    let o = c.ok_or.ensures in
    subst (QuickRule xs) (sym (tied_refused c.decide.result) ∙ ap quick_answer (sym o.value))
    (quick-signs xs l (c.clear.ensures.valid c.if-clear.true) a (c.clear.ensures.none c.if-clear.true)
    (subst (λ (ys : List ℤ). Decides (sign_word xs) ys a) w (subst (λ (n : ℕ). Decides n (whole 24 xs) a) e c.decide.ensures)))

pub returns : goal.returns
returns c =
    let xs = c.args.reading.now in
    let l = c.if-reading-ne-POSITIONS.false in
    let valid = sym c.most_negative.ensures.is ∙ c.if-most_negative.false in
    let a = quick_answer c.fillings.result in
    quick_settles xs l valid a (c.clear.ensures.some c.if-clear.false valid)
    (subst (λ (ys : List ℤ). Settles ys a) (whole-itself 24 xs l) c.fillings.ensures)
