-- What the places from i on lead to stands in the slots before first and from end on.
-- Assumes nothing.
use Rattle.candidates.proofs.Slots.{FilledFrom}
use Rattle.candidates.proofs.fill.Given as goal

abbrev pub invariant-loop-i : goal.invariant-loop-i
invariant-loop-i l = FilledFrom l.word l.s l.slots l.first l.end l.i
