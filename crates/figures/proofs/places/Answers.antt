-- The tables are the lists of their rules' values.
use Rattle.std.proofs.Common.{◌<◌, subst, sym}
use Rattle.figures.specs.Figures.{middle_of, last_of}
use Rattle.figures.proofs.Scoring.{middle_small, last_small, table_at}
use Rattle.figures.proofs.places.Goals as goal

pub returns-clause-middle : goal.returns-clause-middle
returns-clause-middle c = table_at middle_of 128 c.args.k c.requires

pub returns-clause-last : goal.returns-clause-last
returns-clause-last c = table_at last_of 128 c.args.k c.requires

pub returns-clause-small : goal.returns-clause-small
returns-clause-small c =
    let k = c.args.k in
    (subst (λ n. n < 64) (sym (table_at middle_of 128 k c.requires)) (middle_small k), subst (λ n. n < 64) (sym (table_at last_of 128 k c.requires)) (last_small k))
