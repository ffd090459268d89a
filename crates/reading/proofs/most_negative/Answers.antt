-- Each confidence is asked, up to the first that is the most negative number.
use Rattle.std.proofs.Common.{rules, tests, ◌≡◌, true}
use Rattle.std.proofs.lemmas.Iterator.{cases_from_any, YieldsList-from_slice}
use Rattle.signed.specs.Within.{Within}
use Rattle.reading.specs.Checks.{is_most_negative}
use Rattle.reading.proofs.Checking.{checked}
use Rattle.reading.proofs.most_negative.Goals as goal

pub returns : goal.returns
returns c =
    let xs = c.args.reading.now in
    checked xs _
    (cases_from_any _ _ _ (λ x. is_most_negative x ≡ true) (λ x. Within 2147483647 x) c.any.ensures.ran (YieldsList-from_slice xs cc)
    (λ x q k. search (rules, tests)) (λ x q k. search (rules, tests)))
