-- Where there is room, a turn is the run over the bytes and what is kept of them.
use Rattle.std.proofs.Common.{ℕ, ◌-◌, ◌≡◌, refl, ap, ◌∙◌, arith, rules}
use lib.ListN.{take}
use Rattle.turns.proofs.Turning.{run-far, turn_done}
use Rattle.turns.proofs.turn.Goals as goal

pub overflow_add-next : goal.overflow_add-next
overflow_add-next c = omega (arith, run-far c.run-outcome.ensures (search rules))

pub returns : goal.returns
returns c =
    let (low, there, same, long) = c.in-Some.ensures.lookup.0 in
    let whole : c.args.count - 0 ≡ c.args.count = omega arith in
    let front = same ∙ ap (λ (n : ℕ). take n c.args.held.now) whole in
    turn_done c.args.held.now c.args.count there (rw front at c.run-outcome.ensures) c.keep-left.ensures refl
