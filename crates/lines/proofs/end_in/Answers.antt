-- The end has room in the array, so what stands there is what the line ends with.
use Rattle.std.proofs.Common.{rules}
use Rattle.lines.proofs.Ends.{end_whole}
use Rattle.lines.proofs.end_in.Goals as goal

pub returns-clause-ending : goal.returns-clause-ending
returns-clause-ending c = (end_whole c.write_end-k.ensures.follows_len_bound (search rules) c.write_end-k.ensures.writes).0
