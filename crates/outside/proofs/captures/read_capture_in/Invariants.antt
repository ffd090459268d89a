-- What is left of a turn is shorter than a record, and every read that goes on brings a byte.
-- Assumes nothing.
use Rattle.std.proofs.Common.{◌+◌, ◌-◌, ◌^◌, ◌<◌}
use Rattle.records.specs.Records.{new_length}
use Rattle.outside.specs.Reader.{StaysShown}
use Rattle.outside.proofs.captures.read_capture_in.Given as goal

abbrev pub invariant-loop-offset : goal.invariant-loop-offset
invariant-loop-offset g l = record {
  reader : StaysShown l.initial.system l.system;
  short : l.count < new_length;
  near : l.offset + l.count < 2 ^ 64;
}

abbrev pub decreases-loop-offset : goal.decreases-loop-offset
decreases-loop-offset g l = 2 ^ 64 - (l.offset + l.count)
