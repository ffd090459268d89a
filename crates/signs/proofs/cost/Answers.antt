-- A turn takes one confidence off what is left.
-- Assumes nothing.
use Rattle.std.proofs.Common.{◌≡◌, ◌∙◌, sym, ap, ℕ, ◌+◌, ◌-◌, ◌*◌, ◌/◌, ◌%◌, ◌^◌, pos, nat_abs, length, get_or, arith, rules, w32, FitsSigned}
use Rattle.std.proofs.Math.Facts.{to_z-of_z}
use Rattle.signs.specs.Signs as rule
use Rattle.signs.proofs.Whole.{whole-itself, whole-none}
use Rattle.signs.proofs.Turns.{cost-turn, cost_end}
use Rattle.signs.proofs.cost.Goals as goal

pub returns-then-reading-ne-POSITIONS : goal.returns-then-reading-ne-POSITIONS
unfolding rule.cost
returns-then-reading-ne-POSITIONS c =
    (sym (ap (rule.cost c.args.error) (whole-none 24 c.args.reading.now c.if-reading-ne-POSITIONS.true)), omega arith)

pub loop-i-preserved : goal.loop-i-preserved
loop-i-preserved c =
    let l = c.loop-i in
    let xs = c.args.reading.now in
    let e = c.args.error in
    let f : FitsSigned w32 (get_or xs l.i (pos 0)) = search rules in
    let taken = rw (to_z-of_z f) at c.at_stake-sum.ensures in
    let long : length xs ≡ 24 = c.if-reading-ne-POSITIONS.false in
    let k : length xs - (l.i + 1) ≡ 23 - l.i = omega arith in
    record {
      small = omega (arith, taken.1, l.invariant.small);
      rest =
          omega (arith, taken.0, cost-turn e xs l.i (omega arith), ap (λ (n : ℕ). e / 2 ^ n % 2 * nat_abs (get_or xs l.i (pos 0))) k, l.invariant.rest);
    }

pub returns : goal.returns
returns c =
    let l = c.loop-i in
    let xs = c.args.reading.now in
    let long : length xs ≡ 24 = c.if-reading-ne-POSITIONS.false in
    let e : l.i ≡ length xs = omega arith in (
      cost_end c.args.error xs l.sum l.i e ∙ l.invariant.rest ∙ ap (rule.cost c.args.error) (sym (whole-itself 24 xs long)),
      omega (arith, l.invariant.small),
    )
