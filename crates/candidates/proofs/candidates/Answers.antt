-- Each refusal stands before the first store, and `fill` writes the candidates.
-- Assumes nothing.
use Rattle.std.proofs.Common.{rules, arith}
use Rattle.hard.proofs.Found.{finds_answer}
use Rattle.candidates.proofs.Calls.{at-four, writes-length, writes_refused, writes-other, writes-four}
use Rattle.candidates.proofs.candidates.Goals as goal

pub returns-then-slots-ne6 : goal.returns-then-slots-ne6
returns-then-slots-ne6 c = writes-length c.args.word c.args.slots.now (omega arith)

pub returns-in_err-found : goal.returns-in_err-found
returns-in_err-found c = search (rules, writes_refused)

pub returns-then-found-ne4 : goal.returns-then-found-ne4
returns-then-found-ne4 c = writes-other c.args.slots.now (omega arith) (finds_answer c.in_ok-found.ensures) (omega arith)

pub fill-requires-clause-at_four : goal.fill-requires-clause-at_four
fill-requires-clause-at_four c = at-four (finds_answer c.in_ok-found.ensures) c.syndrome_of.ensures (omega arith)

pub returns : goal.returns
returns c =
    writes-four c.args.slots.now (omega arith) (finds_answer c.in_ok-found.ensures) (omega arith) c.fill.ensures
