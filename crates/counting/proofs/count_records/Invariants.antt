-- The readings of the records before a place are counted, and the tally of all is that of those from the place on, counted after them.
use Rattle.std.proofs.Common.{◌≡◌, ◌-◌, length}
use Rattle.totals.specs.Totals.{totals}
use Rattle.counting.proofs.Upto.{Upto}
use Rattle.counting.proofs.count_records.Given as goal

abbrev pub invariant-loop-record : goal.invariant-loop-record
invariant-loop-record l = record {
  bytes : l.walk.bytes.now ≡ l.bytes;
  last : l.walk.last ≡ l.last;
  upto : Upto l.last l.bytes (totals l.fn.t l.fn.table) (totals l.tally l.table) l.walk.at;
}

abbrev pub decreases-loop-record : goal.decreases-loop-record
decreases-loop-record l = length l.bytes - l.walk.at
