-- Each turn places what its place leads to, and after the last the slots hold the whole arrangement.
-- Assumes nothing.
use Rattle.std.proofs.Common.{arith}
use Rattle.candidates.proofs.Slots.{Turn, begun, done, turn-word, turn-room, turn_skip, turn-front, turn_back}
use Rattle.candidates.proofs.fill.Goals as goal
use Rattle.candidates.proofs.fill.Goals.{After-pattern-rest}

turn : (c : After-pattern-rest) → Turn c.args.word c.args.s c.loop-i.slots c.loop-i.first c.loop-i.end c.loop-i.i c.pattern-rest.result
turn c = record { at-four = c.requires.at_four; filled = c.loop-i.invariant; more = c.loop-i-test.true; read = c.pattern-rest.ensures }

pub loop-i-init : goal.loop-i-init
loop-i-init c = begun c.args.word c.args.s c.args.slots.now c.requires.at_four c.requires.slots_len

pub applied-candidate-requires : goal.applied-candidate-requires
applied-candidate-requires c =
    (c.requires.at_four.within, turn-word (turn (goal.at.applied-candidate-requires c).After-pattern-rest) c.if-rest-place.true)

pub bounds-slots-first : goal.bounds-slots-first
bounds-slots-first c =
    let t = turn (goal.at.bounds-slots-first c).After-pattern-rest in
    omega (arith, turn-room t c.if-rest-place.true, t.filled.room, t.filled.size)

pub loop-i-preserved-then-word-i-eq1 : goal.loop-i-preserved-then-word-i-eq1
loop-i-preserved-then-word-i-eq1 c =
    rw c.applied-candidate.ensures
    (turn-front (turn (goal.at.loop-i-preserved-then-word-i-eq1 c).After-pattern-rest) c.if-rest-place.true c.if-word-i-eq1.true)

pub overflow_sub-end : goal.overflow_sub-end
overflow_sub-end c =
    omega (arith, turn-room (turn (goal.at.overflow_sub-end c).After-pattern-rest) c.if-rest-place.true)

pub loop-i-preserved-else-word-i-eq1 : goal.loop-i-preserved-else-word-i-eq1
loop-i-preserved-else-word-i-eq1 c =
    rw c.applied-candidate.ensures
    (turn_back (turn (goal.at.loop-i-preserved-else-word-i-eq1 c).After-pattern-rest) c.if-rest-place.true c.if-word-i-eq1.false)

pub loop-i-preserved : goal.loop-i-preserved
loop-i-preserved c = turn_skip (turn (goal.at.loop-i-preserved c).After-pattern-rest) c.if-rest-place.false

pub returns : goal.returns
returns c = done c.loop-i.invariant (omega arith) c.requires.at_four
