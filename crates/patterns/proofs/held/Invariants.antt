-- The fields that are left hold as many as all.
use Rattle.std.proofs.Common.{◌≡◌, ◌-◌}
use Rattle.patterns.specs.Positions as positions
use Rattle.patterns.proofs.held.Given as goal

abbrev pub invariant-loop-passed : goal.invariant-loop-passed
invariant-loop-passed l = positions.held (4 - l.passed) l.left ≡ positions.held 4 l.fn.entry
