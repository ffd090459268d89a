-- What the word is decided for is compared.
-- Assumes nothing.
use Rattle.decision.proofs.Deciding.{gives_decided}
use Rattle.decision.proofs.gives.Goals as goal

pub returns : goal.returns
returns c = rw c.eq.ensures (gives_decided c.decide.result c.decide.ensures)
