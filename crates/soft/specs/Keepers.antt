-- What the answer is made from: the two largest correlations, and the message of the largest.
use Rattle.std.specs.Prelude.{◌<◌}
use Rattle.signed.specs.Within.{Within}
use Rattle.contest.specs.declared.Keeper.{Keeper}
use Rattle.code.specs.Code.{messages}

-- a correlation's bound (6.5), and a message
pub record Wide (t : Keeper) : Type 0 where
  pub best : Within 51539607528 t.best
  pub second : Within 51539607528 t.second
  pub at : t.at < messages
