-- A number's bits as a list: they show the number, and two such lists differ in as many positions as the numbers' exclusive or has ones.
use mathlib.Core.Path.{◌≡◌, refl, sym, ap, ap₂, ◌∙◌}
use mathlib.Core.Bool.{Bool}
use mathlib.Core.List.{List, [], ◌∷◌}
use Prim.Native.Nat.{ℕ, zero, suc, ◌+◌, ◌*◌, ◌/◌, ◌%◌, ◌^◌, ◌<◌}
use native.Mathlib.Omega.{arith}
use native.Mathlib.Nat.{mod-eq_of_lt}
use lib.Dec.{eqb}
use lib.Pow.{shr-shr, mod-pow-add}
use lib.Bits.{bit_xor, xor_shr, xor_mod}
use lib.ListN.{length}
use Rattle.binary.specs.Words.{ones}
use Rattle.binary.proofs.Xor.{two_cases, bit_lt}
use Rattle.contest.specs.Words.{differ, one, distance}
use Rattle.classes.specs.Codewords.{in_positions}

pub positions-long : (n w : ℕ) → length (in_positions n w) ≡ n
positions-long zero w = refl
positions-long (suc n) w = ap suc (positions-long n w)

-- ---- the number again

one_bit : (x : ℕ) → x < 2 → one (eqb x 1) ≡ x
one_bit = two_cases (λ x. one (eqb x 1) ≡ x) refl refl

number : List Bool → ℕ
number [] = 0
number (b ∷ bs) = one b * 2 ^ length bs + number bs

number-positions : (n w : ℕ) → number (in_positions n w) ≡ w % 2 ^ n
unfolding number
number-positions zero w = omega arith
number-positions (suc n) w =
    ap₂ (λ (x y : ℕ). x * 2 ^ length (in_positions n w) + y) (one_bit (w / 2 ^ n % 2) (bit_lt (w / 2 ^ n))) (number-positions n w)
    ∙ ap (λ (k : ℕ). w / 2 ^ n % 2 * 2 ^ k + w % 2 ^ n) (positions-long n w) ∙ sym (mod-pow-add w 1 n) ∙ ap (λ (k : ℕ). w % 2 ^ k) (omega arith)

pub positions_injective : (n a b : ℕ) → a < 2 ^ n → b < 2 ^ n → in_positions n a ≡ in_positions n b → a ≡ b
positions_injective n a b ha hb e =
    sym (mod-eq_of_lt ha) ∙ sym (number-positions n a) ∙ ap number e ∙ number-positions n b ∙ mod-eq_of_lt hb

-- ---- distances

ones-top : (n w : ℕ) → ones (suc n) w ≡ w / 2 ^ n % 2 + ones n w
unfolding ones
ones-top zero w = let e : w / 1 ≡ w = omega arith in rw e refl
ones-top (suc n) w =
    let e : w / 2 / 2 ^ n ≡ w / 2 ^ suc n = shr-shr w 1 n ∙ ap (λ (k : ℕ). w / 2 ^ k) (omega arith) in
    let h : ones (suc n) (w / 2) ≡ w / 2 ^ suc n % 2 + ones n (w / 2) = rw e at (ones-top n (w / 2)) in
    omega arith

one-differ : (x : ℕ) → x < 2 → (y : ℕ) → y < 2 → one (differ (eqb x 1) (eqb y 1)) ≡ bit_xor x y
one-differ =
    two_cases (λ x. (y : ℕ) → y < 2 → one (differ (eqb x 1) (eqb y 1)) ≡ bit_xor x y)
    (two_cases (λ y. one (differ (eqb 0 1) (eqb y 1)) ≡ bit_xor 0 y) refl refl)
    (two_cases (λ y. one (differ (eqb 1 1) (eqb y 1)) ≡ bit_xor 1 y) refl refl)

pub distance-positions : (n a b : ℕ) → distance (in_positions n a) (in_positions n b) ≡ ones n (bit_xor a b)
unfolding distance ones
distance-positions zero a b = refl
distance-positions (suc n) a b =
    ap₂ ◌+◌
    (one-differ (a / 2 ^ n % 2) (bit_lt (a / 2 ^ n)) (b / 2 ^ n % 2) (bit_lt (b / 2 ^ n))
    ∙ sym (ap (λ (x : ℕ). x % 2) (xor_shr a b n) ∙ xor_mod (a / 2 ^ n) (b / 2 ^ n) 1))
    (distance-positions n a b)
    ∙ sym (ones-top n (bit_xor a b))
