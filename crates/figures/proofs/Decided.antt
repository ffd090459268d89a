-- Two answers that the promise of `largest_figures` allows for the same sums are equal: what is kept of a list is decided by the list.
-- Assumes nothing.
use mathlib.Core.Path.{◌≡◌}
use mathlib.Core.List.{List}
use lib.IntN.{ℤ}
use Rattle.contest.specs.Kept.{Kept, run}
use Rattle.contest.specs.declared.Keeper.{Keeper}
use Rattle.contest.proofs.Keeping.{kept-one}
use Rattle.classes.specs.Classes.{classes}
use Rattle.figures.specs.Figures.{reached_from}

pub figures_once : (s : List ℤ) (t u : Keeper) → Kept (run (reached_from s) classes) t → Kept (run (reached_from s) classes) u → t ≡ u
figures_once s t u = kept-one
