-- The pairs are small.
use Rattle.figures.proofs.Scoring.{sums_usable, leasts_usable}
use Rattle.figures.proofs.OtherPairs.of_codes.Goals as goal

pub invariant_of-result : goal.invariant_of-result
invariant_of-result c = record {
  usable_sums = sums_usable c.args.codes.now.small c.pair_sums-sums.ensures;
  usable_leasts = leasts_usable c.args.codes.now.small c.pair_leasts-leasts.ensures;
}
