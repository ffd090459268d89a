-- Two answers that the promise of `column_sums` allows for one reading are equal: the promise says what stands in each of the 48 places.
-- Assumes nothing.
use mathlib.Core.Path.{◌≡◌, sym, ap, ◌∙◌}
use mathlib.Core.List.{List}
use Prim.Native.Nat.{ℕ, ◌/◌, ◌%◌, ◌<◌}
use native.Mathlib.Omega.{arith}
use lib.IntN.{ℤ, pos}
use lib.ListN.{length, get_or}
use lib.Seq.{ext_get_or}
use Rattle.classes.specs.Classes.{column_sum}
use Rattle.columns.specs.Columns.{place, Sums}

sum-at : {xs s : List ℤ} → Sums xs s → (j : ℕ) → j < 48 → get_or s j (pos 0) ≡ column_sum xs (j / 8) (j % 8 / 4) (j % 4)
sum-at {s = s} S j h =
    let e : place (j / 8) (j % 8 / 4) (j % 4) ≡ j = omega arith in
    ap (λ (n : ℕ). get_or s n (pos 0)) (sym e) ∙ S.sums (j / 8) (j % 8 / 4) (j % 4) (omega arith) (omega arith) (omega arith)

pub sums-once : (xs s t : List ℤ) → length s ≡ 48 → length t ≡ 48 → Sums xs s → Sums xs t → s ≡ t
sums-once xs s t long same S T =
    ext_get_or (pos 0) s t (long ∙ sym same) (λ j h. sum-at S j (omega arith) ∙ sym (sum-at T j (omega arith)))
