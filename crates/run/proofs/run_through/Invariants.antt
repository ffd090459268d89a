-- The text of the records before a place stands in the buffer, and the text of all is that and the text from the place on, after the previous
-- number there. It is no longer than what was read.
use Rattle.std.proofs.Common.{◌≡◌, ◌-◌, length}
use Rattle.run.proofs.Upto.{Upto}
use Rattle.run.proofs.run_through.Given as goal

abbrev pub invariant-loop-record : goal.invariant-loop-record
invariant-loop-record l = record {
  bytes : l.walk.bytes.now ≡ l.bytes;
  last : l.walk.last ≡ l.last;
  upto : Upto l.last l.start.previous l.start.offset l.bytes l.initial.out l.out l.previous l.walk.at l.put;
}

abbrev pub decreases-loop-record : goal.decreases-loop-record
decreases-loop-record l = length l.bytes - l.walk.at
