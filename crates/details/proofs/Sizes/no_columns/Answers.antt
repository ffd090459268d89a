-- The empty state.
use Rattle.std.proofs.Common.{[], refl, arith}
use Rattle.contest.proofs.Signs.{empty}
use Rattle.columns.specs.Columns.{far}
use Rattle.details.proofs.Sizes.no_columns.Goals as goal

pub returns : goal.returns
returns c = record {
  signs = [];
  other = [];
  state = empty far [];
  other-long = refl;
  total-is = refl;
  bound = omega arith;
  odd_is = refl;
  signs-is = refl;
  other-is = refl;
}
