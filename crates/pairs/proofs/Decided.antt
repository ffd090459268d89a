-- Two answers that the promise of `pair_sums` allows for the same codes are equal, and so are two of `pair_leasts`: the promise says what
-- stands in each of the 64 places.
-- Assumes nothing.
use mathlib.Core.Path.{◌≡◌, sym, ◌∙◌}
use mathlib.Core.List.{List}
use Prim.Native.Nat.{ℕ}
use native.Mathlib.Omega.{arith}
use lib.Seq.{ext_get_or}
use Rattle.pairs.specs.Pairs.{Pairs}

pub pairs_once : {f : ℕ → ℕ → ℕ} (e r s : List ℕ) → Pairs f e r → Pairs f e s → r ≡ s
pairs_once e r s R S =
    ext_get_or 0 r s (R.long ∙ sym S.long) (λ j h. (R.places j (omega (arith, R.long))).value ∙ sym (S.places j (omega (arith, R.long))).value)
