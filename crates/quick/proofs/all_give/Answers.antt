-- One filling more is tried, the next lower one.
-- Assumes nothing.
use Rattle.std.proofs.Common.{ℕ, ◌+◌, ◌-◌, subst, arith, bit_and}
use mathlib.Core.Bool.{true≢false, false≢true}
use native.Mathlib.Nat.{mod-eq_of_lt}
use Rattle.signs.specs.Signs.{whole}
use Rattle.signs.proofs.Whole.{whole-short}
use Rattle.decision.specs.Decision.{Gives}
use Rattle.quick.proofs.Trying.{tried_first, next-short, tried_next, tried_not, tried_all}
use Rattle.quick.proofs.all_give.Goals as goal
use Rattle.quick.proofs.all_give.Goals.{After-gives}

-- what is said of the filling's lowest 24 bits is said of it, which is a word
given : (c : After-gives)
    → Gives c.args.codeword.0 (c.args.least + bit_and (c.loop-ones.ones - 1) c.args.places) (whole 24 c.args.reading.now) c.gives.result
given c =
    let short = next-short c.requires.signs c.requires.zeros c.loop-ones.invariant c.loop-ones-test.true (whole-short 24 c.args.reading.now) in
    subst (λ (w : ℕ). Gives c.args.codeword.0 w (whole 24 c.args.reading.now) c.gives.result) (mod-eq_of_lt short) c.gives.ensures

pub loop-ones-init : goal.loop-ones-init
loop-ones-init c = tried_first c.requires.signs c.requires.zeros c.requires.decided

pub overflow_add-least : goal.overflow_add-least
overflow_add-least c =
    let short = next-short c.requires.signs c.requires.zeros c.loop-ones.invariant c.loop-ones-test.true (whole-short 24 c.args.reading.now) in
    record { fits = omega (arith, short) }

pub returns-then-not-gives : goal.returns-then-not-gives
returns-then-not-gives c =
    let g = given (goal.at.returns-then-not-gives c).After-gives in
    record {
      all = λ e. absurd (false≢true e);
      not-all = λ e. tried_not c.requires.signs c.requires.zeros c.loop-ones.invariant c.loop-ones-test.true (g.gives-not c.if-not-gives.true);
    }

pub loop-ones-preserved : goal.loop-ones-preserved
loop-ones-preserved c =
    let g = given (goal.at.loop-ones-preserved c).After-gives in
    tried_next c.requires.signs c.requires.zeros c.loop-ones.invariant c.loop-ones-test.true (g.gives c.if-not-gives.false)

pub returns : goal.returns
returns c = record { all = λ e. tried_all c.loop-ones.invariant (omega arith); not-all = λ e. absurd (true≢false e) }
