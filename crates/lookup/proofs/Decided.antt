-- What `lookup` promises decides: any two answers that a promise allows are equal.
-- Assumes nothing.
use mathlib.Core.Path.{◌≡◌}
use Prim.Native.Nat.{ℕ, ◌%◌}
use Rattle.code.specs.Code.{syndromes}
use Rattle.patterns.specs.Patterns.{IsPattern}
use Rattle.patterns.specs.Positions.{Stored}
use Rattle.patterns.proofs.Patterns.{pattern_unique}
use Rattle.patterns.proofs.Positions.{stored_once}

pub entry-decided : (s x y : ℕ) → Stored (s % syndromes) x → Stored (s % syndromes) y → x ≡ y
entry-decided s x y p q = stored_once p q

pub pattern-decided : (s x y : ℕ) → IsPattern (s % syndromes) x → IsPattern (s % syndromes) y → x ≡ y
pattern-decided s x y p q = pattern_unique p q
