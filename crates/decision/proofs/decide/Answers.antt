-- A word that correction refuses is at distance four.
-- Assumes nothing.
use native.Mathlib.Nat.{mod-lt}
use lib.Dec.{lit<}
use Rattle.decision.proofs.Choosing.{refused-four}
use Rattle.decision.proofs.decide.Goals as goal

pub chosen-requires : goal.chosen-requires
chosen-requires c = refused-four (mod-lt c.args.word (lit< tt)) c.in-Err.ensures
