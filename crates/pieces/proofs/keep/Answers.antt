-- What is moved to the front is what stands from the place up to the end.
use Rattle.std.proofs.Common.{rules}
use Rattle.pieces.proofs.Pieces.{keep_done}
use Rattle.pieces.proofs.keep.Goals as goal

pub returns : goal.returns
returns c = keep_done c.args.held.now c.args.from c.args.end (record { ordered = search rules; there = search rules }) c.copy_within.ensures.after
