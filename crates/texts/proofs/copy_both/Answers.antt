-- The second text is put after the first.
use Rattle.texts.proofs.Buffers.{puts_then}
use Rattle.texts.proofs.copy_both.Goals as goal

pub returns : goal.returns
returns c = puts_then c.copy-p.ensures c.copy.ensures
