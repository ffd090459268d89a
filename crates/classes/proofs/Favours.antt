-- What a column says for its two interpretations: the one has the opposite of the other's correlation, whatever the parity and the character.
use mathlib.Core.Path.{◌≡◌, refl, ap, ◌∙◌}
use mathlib.Core.Bool.{Bool, not}
use mathlib.Core.List.{List, [], ◌∷◌, map}
use Prim.Native.Nat.{ℕ, ◌+◌, ◌-◌, ◌*◌, ◌≤◌, ◌<◌}
use native.Mathlib.Nat.{mul-le-mul_right}
use native.Mathlib.Omega.{arith}
use lib.IntN.{ℤ}
use lib.ListN.{length, get_or, take, drop, length-take}
use Rattle.binary.proofs.Tests.{below}
use Rattle.signed.specs.Within.{Within}
use Rattle.signed.specs.Opposites.{Opposites}
use Rattle.signed.proofs.Opposites.{opposites}
use Rattle.contest.specs.Readings.{Reading, correlation}
use Rattle.contest.proofs.Bounds.{weight-range, correlation-weight, take_range, drop-range}
use Rattle.code.specs.Array.{interpretations, interpretation}
use Rattle.classes.specs.Codewords.{in_positions}
use Rattle.classes.specs.Classes.{top_zero, column_sum, column_correlation, column_figure, class_sums, parity_of, characters_of, character_in}
use Rattle.classes.proofs.Columns.{correlation-not}
use Rattle.classes.proofs.Classes.{same_bit, same_word, same_word_eq}
use Rattle.classes.proofs.Characters.{small_at, characters_small}

-- ---- Rule 1.10: they are opposite in all four rows

are_opposite : ℕ → Bool
are_opposite n = same_word (in_positions 4 (get_or interpretations (n * 2 + 1) 0)) (map not (in_positions 4 (get_or interpretations (n * 2) 0)))

rows_opposed : (p x : ℕ) → p < 2 → x < 4 → in_positions 4 (interpretation p x 1) ≡ map not (top_zero p x)
unfolding are_opposite same_word same_bit
rows_opposed p x hp hx =
    let n = p * 4 + x in
    let e : p * 8 + x * 2 + 1 ≡ n * 2 + 1 = omega arith in
    let f : p * 8 + x * 2 + 0 ≡ n * 2 = omega arith in
    rw (e, f) (same_word_eq _ _ (below are_opposite 8 tt n (omega arith)))

-- ---- Rule 8.3

pub sum_opposites : (xs : List ℤ) (i p x : ℕ) → p < 2 → x < 4 → Opposites (column_sum xs i p x) (column_correlation xs i p x 0) (column_correlation xs i p x 1)
unfolding column_sum
sum_opposites xs i p x hp hx =
    let column = take 4 (drop (4 * i) xs) in
    opposites refl (ap (λ (bs : List Bool). correlation bs column) (rows_opposed p x hp hx) ∙ correlation-not (top_zero p x) column)

pub figure_opposites : (xs : List ℤ) (k j : ℕ)
    → Opposites (column_figure xs k j) (column_correlation xs (j - 1) (parity_of k) (character_in k j) 0) (column_correlation xs (j - 1) (parity_of k) (character_in k j) 1)
unfolding column_figure
figure_opposites xs k j = sum_opposites xs (j - 1) (parity_of k) _ (omega arith) (small_at (characters_of k) (characters_small k) (6 - j))

-- the six sums of a class are its six figures
pub sums_figures : (xs : List ℤ) (k : ℕ)
    → class_sums xs k ≡ column_figure xs k 6 ∷ column_figure xs k 5 ∷ column_figure xs k 4 ∷ column_figure xs k 3 ∷ column_figure xs k 2 ∷ column_figure xs k 1 ∷ []
unfolding column_figure characters_of
sums_figures xs k = refl

-- the size is at most four times the range
pub figure-size : {B n : ℕ} {xs : List ℤ} → Reading B n xs → (k j : ℕ) → Within (4 * B) (column_figure xs k j)
unfolding column_figure column_sum
figure-size {B} {xs = xs} X k j =
    let column = take 4 (drop (4 * (j - 1)) xs) in
    let w = weight-range B column (take_range B 4 _ (drop-range B (4 * (j - 1)) xs X.range)) in
    let four : length column ≤ 4 = omega (arith, length-take 4 (drop (4 * (j - 1)) xs)) in
    let c = correlation-weight (top_zero (parity_of k) (character_in k j)) column in
    record { within = omega (arith, c, w, mul-le-mul_right B four) }
