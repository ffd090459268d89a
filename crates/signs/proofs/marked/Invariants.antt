-- By whatever the test computes, the word holds the first marks.
-- Assumes nothing.
use Rattle.std.proofs.Common.{Bool, ℤ, ◌^◌, ◌<◌}
use Rattle.signs.specs.Tests.{Computes}
use Rattle.signs.proofs.Turns.{Begun}
use Rattle.signs.proofs.marked.Given as goal

abbrev pub invariant-loop-x : goal.invariant-loop-x
invariant-loop-x g l = record {
  short : l.word < 2 ^ l.x-index;
  begun : (t : ℤ → Bool) → Computes (goal.F-post g l.test) t → Begun t 24 l.reading l.word l.x-index;
}
