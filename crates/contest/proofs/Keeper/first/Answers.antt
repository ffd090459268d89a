-- One value is the largest, and there are no others.
use Rattle.std.proofs.Math.Facts.{to_z-of_z}
use Rattle.contest.proofs.Keeping.{keep-first}
use Rattle.contest.proofs.Keeper.first.Goals as goal

pub returns : goal.returns
returns c = rw (to_z-of_z c.ranges.value) (keep-first c.args.value c.args.at)
