-- Rule 5.2: a syndrome has one pattern.
-- Assumes nothing.
use mathlib.Core.Path.{◌≡◌, sym}
use Prim.Native.Nat.{ℕ}
use native.Mathlib.Nat.{le_antisymm}
use Rattle.binary.specs.Words.{ones}
use Rattle.patterns.specs.Patterns.{IsPattern}

pub pattern_unique : {s x y : ℕ} → IsPattern s x → IsPattern s y → x ≡ y
pattern_unique {s} {x} {y} p q =
    let e : ones 24 x ≡ ones 24 y = le_antisymm (p.fewest y q.word q.syndrome) (q.fewest x p.word p.syndrome) in
    le_antisymm (p.smallest y q.word q.syndrome (sym e)) (q.smallest x p.word p.syndrome e)
