-- The sums passed stand in their places.
use Rattle.std.proofs.Common.{◌≡◌, List, ◌+◌, ◌*◌, ℤ, pos, length}
use Rattle.columns.specs.Places.{Filled}
use Rattle.columns.specs.Columns.{ColumnOf, SumAt, SumsUpTo}
use Rattle.columns.proofs.parts.Column.put.Given as goal

abbrev pub invariant-loop-n : goal.invariant-loop-n
invariant-loop-n l =
    (length l.sums ≡ 48)
    × ((xs : List ℤ) → ColumnOf xs l.i l.self → SumsUpTo xs l.i l.initial.sums → Filled (pos 0) (SumAt xs) (8 * l.i + l.n) 48 l.sums)
