-- Where a whole record stands its bytes are there, and elsewhere zeros are asked for.
use Rattle.std.proofs.Common.{true, sym, ◌∙◌, arith}
use Rattle.records.proofs.Standing.{whole_takes, takes_room, takes_reading}
use Rattle.contents.proofs.confidences.Goals as goal

pub reading-requires : goal.reading-requires
reading-requires c = let room = takes_room (whole_takes true c.args.bytes.now c.args.at (sym c.in-Record.ensures)) in omega (arith, room.0, room.1)

pub returns-in-Record : goal.returns-in-Record
returns-in-Record c = c.reading.ensures ∙ sym (takes_reading (whole_takes true c.args.bytes.now c.args.at (sym c.in-Record.ensures)))
