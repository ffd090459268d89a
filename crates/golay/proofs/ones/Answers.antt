-- The language's count of ones is the count among the number's 32 bits.
use Rattle.binary.proofs.Ones.{ones-counted}
use Rattle.golay.proofs.ones.Goals as goal

pub returns : goal.returns
returns c = ones-counted 32 c.args.number c.ranges.number.fits
