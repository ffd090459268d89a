-- The figures of the codes are those that the sums reach.
use Rattle.figures.proofs.Reaching.{kept-reached}
use Rattle.figures.proofs.largest_figures.Goals as goal

pub returns : goal.returns
returns c = kept-reached c.of_sums.ensures c.largest.ensures
