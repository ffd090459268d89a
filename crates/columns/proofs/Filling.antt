-- Filling a list's places in order: one more.
use mathlib.Core.Path.{◌≡◌, ◌∙◌}
use mathlib.Core.List.{List}
use Prim.Native.Nat.{ℕ, ◌+◌, ◌<◌}
use native.Mathlib.Omega.{arith}
use native.Mathlib.Decide.{ℕ_discrete}
use lib.ListN.{get_or, set, length-set}
use lib.Seq.{get_or-set_same, get_or-set_other}
use Rattle.columns.specs.Places.{Filled}

module _ {A : Type 0} (default : A) (Right : ℕ → A → Type 0) where
  pub put : (n m : ℕ) {l : ℕ} {s : List A} {z : A} → m ≡ n + 1 → n < l → Right n z → Filled default Right n l s → Filled default Right m l (set s n z)
  put n m {l} {s} {z} e h new F = record { long = length-set s n z ∙ F.long; places = λ j b. go j b (ℕ_discrete j n) }
    where
      go : (j : ℕ) → j < m → Dec (j ≡ n) → Right j (get_or (set s n z) j default)
      go j b (yes g) = rw (g, get_or-set_same s n z default (omega (arith, F.long))) new
      go j b (no d) = rw (get_or-set_other s n j z default d) (F.places j (omega arith))
