-- A class's figure, the largest correlation of its 32 codewords, is what its six sums reach.
use mathlib.Core.Path.{◌≡◌, refl}
use mathlib.Core.List.{List}
use Prim.Native.Nat.{ℕ, ◌+◌, ◌*◌, ◌<◌}
use native.Mathlib.Omega.{arith}
use lib.Dec.{eqb}
use lib.IntN.{ℤ}
use lib.ListN.{length}
use Rattle.code.specs.Code.{positions}
use Rattle.contest.specs.Readings.{scores}
use Rattle.contest.specs.Losses.{weight}
use Rattle.contest.proofs.Bounds.{own_range}
use Rattle.contest.proofs.Runs.{Figure}
use Rattle.contest.proofs.Figures.{figure-reached}
use Rattle.classes.specs.Codewords.{word}
use Rattle.classes.specs.Classes.{classes, parity_of, characters_of, class_sums, reached_figure}
use Rattle.classes.proofs.Classes.{in_class_lem}

pub class_reached : (xs : List ℤ) → length xs ≡ positions → (k : ℕ) → k < classes
    → Figure (scores word xs) (k * 32) (k * 32 + 32) (reached_figure xs k)
unfolding reached_figure characters_of
class_reached xs long k h =
    figure-reached (scores word xs) 5 (k * 32) (weight (class_sums xs k)) (eqb (parity_of k) 1) _ _ (own_range (class_sums xs k)) refl (omega arith)
    (in_class_lem xs long k h)
