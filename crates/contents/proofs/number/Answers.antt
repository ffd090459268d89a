-- The record's length tells its kind, and a new one has its number after its mark.
use Rattle.std.proofs.Common.{true, Some, ap, sym, ◌∙◌, arith}
use Rattle.records.proofs.Standing.{whole_takes, takes_room, takes_new}
use Rattle.contents.proofs.number.Goals as goal

pub number_from-requires : goal.number_from-requires
number_from-requires c = let room = takes_room (whole_takes true c.args.bytes.now c.args.at (sym c.in-Record.ensures)) in omega (arith, room.0, room.1)

pub returns-in-Record : goal.returns-in-Record
returns-in-Record c =
    ap Some c.number_from.ensures
    ∙ sym (takes_new (whole_takes true c.args.bytes.now c.args.at (sym c.in-Record.ensures)) c.if-next-at-ne-OLD_RECORD.true)
