-- The pairs passed stand in their places.
use Rattle.std.proofs.Common.{◌*◌, get_or}
use Rattle.columns.specs.Places.{Filled}
use Rattle.pairs.specs.Pairs.{first_of, second_of}
use Rattle.pairs.proofs.pairs_by.Given as goal

abbrev pub invariant-loop-q : goal.invariant-loop-q
invariant-loop-q g l =
    Filled 0 (λ j z. goal.F-post g l.rule (get_or l.codes (first_of j) 0) (get_or l.codes (second_of j) 0) z) (4 * l.q) 64 l.pairs
