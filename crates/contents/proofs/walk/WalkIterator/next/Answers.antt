-- A whole record takes bytes that are left.
use Rattle.std.proofs.Common.{sym, arith}
use Rattle.records.proofs.Standing.{whole_takes, takes_room}
use Rattle.contents.proofs.walk.WalkIterator.next.Goals as goal

pub returns-in-Record-clause-goes : goal.returns-in-Record-clause-goes
returns-in-Record-clause-goes c =
    let w = c.args.self.now in
    let room = takes_room (whole_takes w.last w.bytes.now w.at (sym c.in-Record.ensures)) in
    record {
      on = λ finite. (tt, tt, omega (arith, room.0, room.1));
      keeps = tt;
      rests = λ finite. tt;
    }
