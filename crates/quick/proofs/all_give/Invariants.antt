-- The fillings with this subset of the zeros and with all higher ones are decided for the codeword.
-- Assumes nothing.
use Rattle.signs.specs.Signs.{whole}
use Rattle.quick.proofs.Trying.{Tried}
use Rattle.quick.proofs.all_give.Given as goal

abbrev pub invariant-loop-ones : goal.invariant-loop-ones
invariant-loop-ones l = Tried l.codeword.0 (whole 24 l.reading) l.ones

abbrev pub decreases-loop-ones : goal.decreases-loop-ones
decreases-loop-ones l = l.ones
