-- Each confidence is asked, up to the first that is zero or the most negative number.
-- Assumes nothing.
use Rattle.std.proofs.Common.{rules, tests, ◌||◌, not}
use Rattle.std.proofs.lemmas.Iterator.{YieldsList-from_slice}
use Rattle.std.proofs.lemmas.Iterator.Search.{all_from_yields_List}
use Rattle.reading.specs.Checks.{is_most_negative}
use Rattle.signs.specs.Fillings.{is_zero}
use Rattle.signs.proofs.Zeros.{clear_all}
use Rattle.signs.proofs.clear.Goals as goal

pub returns : goal.returns
returns c =
    let xs = c.args.reading.now in
    clear_all xs c.all.result
    (all_from_yields_List (λ x. not (is_most_negative x || is_zero x)) _ _ c.all.result c.all.ensures.ran (YieldsList-from_slice xs cc) (λ x b q k. search (rules, tests)))
