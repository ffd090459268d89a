-- The keeper holds the two largest of the merits passed.
-- Assumes nothing.
use Rattle.std.proofs.Common.{ℕ, ◌<◌}
use Rattle.signed.specs.Within.{Within}
use Rattle.contest.specs.Kept.{Kept, run}
use Rattle.signs.specs.Signs.{whole}
use Rattle.decision.specs.Decision.{merits}
use Rattle.decision.proofs.cheapest.Given as goal

abbrev pub invariant-loop-i : goal.invariant-loop-i
invariant-loop-i l = record {
  kept : Kept (run (merits l.word (whole 24 l.reading) l.slots) l.i) l.kept;
  each : (k : ℕ) → k < l.i → Within 51539607552 (merits l.word (whole 24 l.reading) l.slots k);
}
