-- Each pair is what the closure gives: the two codes added.
use Rattle.std.proofs.Common.{rules}
use Rattle.pairs.proofs.pair_sums.Goals as goal

pub returns : goal.returns
returns c =
    let R = c.pairs_by.ensures in
    record { long = R.long; places = λ j h. record { value = search (rules, R.places j h) } }
