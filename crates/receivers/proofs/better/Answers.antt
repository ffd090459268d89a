-- The chosen receiver's buffer holds the reading, and the part is that reading in its place.
use Rattle.std.proofs.Common.{refl}
use Rattle.receivers.proofs.Choosing.{lends_first, lends_second}
use Rattle.receivers.proofs.better.Goals as goal

pub returns-in-First : goal.returns-in-First
returns-in-First c = lends_first c.choice.ensures c.in-First.is c.reading_at.ensures

pub returns-in-Second : goal.returns-in-Second
returns-in-Second c = lends_second c.choice.ensures c.in-Second.is c.reading_at-in-Second.ensures

pub returns-in-Neither : goal.returns-in-Neither
returns-in-Neither c =
    let p = rw c.in-Neither.is at c.choice.ensures in
    record { better = record { choice = 0; chooses = p; is = refl }; begins = refl }
