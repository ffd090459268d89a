-- At distance four the candidate call writes all six.
-- Assumes nothing.
use Rattle.std.proofs.Common.{rules, refl, w64, FitsSigned}
use Rattle.signed.proofs.Locals.{le_taken, le_left}
use Rattle.signs.specs.Signs.{whole}
use Rattle.candidates.specs.Candidates.{Candidates}
use Rattle.decision.proofs.Choosing.{four-ok, four-candidates, chosen-alone, chosen-shared}
use Rattle.decision.proofs.chosen.Goals as goal
use Rattle.decision.proofs.chosen.Goals.{After-cheapest-best}

best : (c : After-cheapest-best) → FitsSigned w64 c.cheapest-best.result.best
best c = search rules

second : (c : After-cheapest-best) → FitsSigned w64 c.cheapest-best.result.second
second c = search rules

six : (c : After-cheapest-best) → Candidates c.args.word c.candidates.new.slots
six c = four-candidates c.candidates.result c.requires refl c.candidates.ensures

pub unwrap-requires : goal.unwrap-requires
unwrap-requires c = four-ok c.candidates.result c.requires refl c.candidates.ensures

pub returns-then-best-second : goal.returns-then-best-second
returns-then-best-second c =
    let k = (goal.at.returns-then-best-second c).After-cheapest-best in
    chosen-shared (whole 24 c.args.reading.now) (six k) c.cheapest-best.ensures (le_taken (best k) (second k) c.if-best-second.true)

pub returns : goal.returns
returns c =
    let k = (goal.at.returns c).After-cheapest-best in
    chosen-alone (whole 24 c.args.reading.now) (six k) c.cheapest-best.ensures (le_left (best k) (second k) c.if-best-second.false)
