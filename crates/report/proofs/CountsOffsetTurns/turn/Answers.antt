-- All bytes that were held are counted or left, by what a turn leaves.
-- Assumes nothing.
use Rattle.std.proofs.Common.{arith, ap}
use Rattle.counting.specs.Counting.{stop_number}
use Rattle.counting.proofs.Decided.{turn_left}
use Rattle.report.proofs.CountsOffsetTurns.turn.Goals as goal

pub note-next-requires : goal.note-next-requires
note-next-requires c = omega (arith, (turn_left c.count_turn-turn.ensures (omega arith)).0, c.requires.offset_bound)

pub returns-in-None-clause-left_value : goal.returns-in-None-clause-left_value
returns-in-None-clause-left_value c = omega (arith, (turn_left c.count_turn-turn.ensures (omega arith)).0, c.note-next.ensures.through)

pub returns-in-None-clause-left_short : goal.returns-in-None-clause-left_short
returns-in-None-clause-left_short c = (turn_left c.count_turn-turn.ensures (omega arith)).1 (ap stop_number c.in-None.is)
