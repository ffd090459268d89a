-- The sum so far and the cost of what is left are the whole.
-- Assumes nothing.
use Rattle.std.proofs.Common.{◌≡◌, ◌+◌, ◌*◌, ◌≤◌, drop}
use Rattle.signs.specs.Signs as rule
use Rattle.signs.proofs.cost.Given as goal

abbrev pub invariant-loop-i : goal.invariant-loop-i
invariant-loop-i l = record {
  small : l.sum ≤ l.i * 2147483648;
  rest : l.sum + rule.cost l.error (drop l.i l.reading) ≡ rule.cost l.error l.reading;
}
