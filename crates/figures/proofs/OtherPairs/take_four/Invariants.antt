-- What is kept of the figures of the classes passed, if these are f's.
use Rattle.std.proofs.Common.{◌≡◌, ℕ, ◌+◌, ◌*◌, ◌≤◌, ◌<◌, ℤ}
use Rattle.figures.specs.Figures.{figure_from, KeptUpTo}
use Rattle.figures.proofs.OtherPairs.take_four.Given as goal

abbrev pub invariant-loop-k : goal.invariant-loop-k
invariant-loop-k l =
    (f : ℕ → ℤ) → ((k : ℕ) → 4 * l.q ≤ k → k < 4 * l.q + 4 → f k ≡ figure_from l.self.sums l.self.leasts l.first.sum l.first.least k)
    → KeptUpTo f (4 * l.q) l.initial.t → KeptUpTo f l.k l.t
