-- A number's decimal digits: as many as hold it and no fewer, which fixes their count; so the kit's digits are those of the lines.
-- Assumes nothing.
use mathlib.Core.Path.{◌≡◌, refl, sym, ap, ◌∙◌}
use mathlib.Core.Bool.{Bool, true, false, cond}
use mathlib.Core.List.{List, [], ◌∷◌, ◌++◌}
use Prim.Native.Nat.{ℕ, zero, suc, ◌+◌, ◌-◌, ◌/◌, ◌%◌, ◌^◌, ◌≤◌, ◌<◌}
use native.Mathlib.Nat.{pow-le-pow_right, pow-suc, div-lt_iff_lt-mul, le-div_iff_mul-le, lt_of_lt_of_le}
use native.Mathlib.Omega.{arith}
use lib.Dec.{ltb, leb, lit<, lit≤}
use lib.ListN.{length, length-append}
use borrow.Author.Tests.{ltb-true, ltb-false, lt-ltb, leb-true, leb-false}
use Rattle.std.specs.Fmt.{decimal as std_decimal}
use Rattle.std.proofs.lemmas.Fmt.{decimal_by_steps}
use Rattle.io.specs.Digits.{hex_digit_ascii, last_digits, IsDigitCount}
use Rattle.texts.specs.Texts.{places_in, decimal}

-- a number of one digit
fewest-one : (n : ℕ) → n < 10 → IsDigitCount 10 1 n 1
fewest-one n h = (lit≤ tt, omega arith, λ l. let e : ⊥ = omega arith in absurd e)

-- one digit more than a tenth of the number has
fewest_more : (n k : ℕ) → 10 ≤ n → IsDigitCount 10 1 (n / 10) k → IsDigitCount 10 1 n (suc k)
fewest_more n zero h f = let e : ⊥ = omega (arith, f.0) in absurd e
fewest_more n (suc k) h f = (omega arith, rw pow-suc ((div-lt_iff_lt-mul (lit< tt)).0 f.1), λ l. above k f.2)
  where
    above : (k : ℕ) → (1 < suc k → 10 ^ (suc k - 1) ≤ n / 10) → 10 ^ (suc (suc k) - 1) ≤ n
    above zero g = h
    above (suc k) g =
        let e : suc (suc k) - 1 ≡ suc k = omega arith in
        let d : suc (suc (suc k)) - 1 ≡ suc (suc k) = omega arith in
        rw (d, pow-suc) ((le-div_iff_mul-le (lit< tt)).0 (rw e at (g (omega arith))))

fewest-places : (fuel n : ℕ) → n ≤ fuel → IsDigitCount 10 1 n (places_in fuel n)
fewest-places zero n h = fewest-one n (omega arith)
fewest-places (suc fuel) n h = cases (ltb n 10) refl (λ l. fewest-places fuel (n / 10) (omega arith))
  where
    cases : (b : Bool) → ltb n 10 ≡ b → (10 ≤ n → IsDigitCount 10 1 (n / 10) (places_in fuel (n / 10)))
        → IsDigitCount 10 1 n (cond b 1 (suc (places_in fuel (n / 10))))
    cases true e tenth = fewest-one n (ltb-true n 10 e)
    cases false e tenth = let l = ltb-false n 10 e in fewest_more n (places_in fuel (n / 10)) l (tenth l)

-- the digits of a line are the fewest that hold the number, and at least one
pub decimal-fewest : (n : ℕ) → IsDigitCount 10 1 n (places_in n n)
decimal-fewest n = fewest-places n n (omega arith)

-- where k digits hold n, the fewest are no more
fewest-within : {n j k : ℕ} → IsDigitCount 10 1 n j → 1 ≤ k → n < 10 ^ k → j ≤ k
fewest-within {n} {j} {k} f h l = cases (leb j k) refl
  where
    cases : (b : Bool) → leb j k ≡ b → j ≤ k
    cases true e = leb-true j k e
    cases false e =
        let p : k < j = leb-false j k e in
        let q : 10 ^ k ≤ 10 ^ (j - 1) = pow-le-pow_right (lit< tt) (omega arith) in
        let z : ⊥ = omega (arith, f.2 (omega arith)) in
        absurd z

pub fewest-once : {n j k : ℕ} → IsDigitCount 10 1 n j → IsDigitCount 10 1 n k → j ≡ k
fewest-once f g = omega (arith, fewest-within f g.0 g.1, fewest-within g f.0 f.1)

pub digits_decimal : {n k : ℕ} → IsDigitCount 10 1 n k → last_digits 10 k n ≡ decimal n
unfolding decimal
digits_decimal {n} f = ap (λ (j : ℕ). last_digits 10 j n) (fewest-once f (decimal-fewest n))

length_digits : (b k n : ℕ) → length (last_digits b k n) ≡ k
length_digits b zero n = refl
length_digits b (suc k) n = simp (length-append, length_digits b k (n / b)) (omega arith)

-- a number below 10^w has at most w digits
pub decimal-length : (w n : ℕ) → 1 ≤ w → n < 10 ^ w → length (decimal n) ≤ w
unfolding decimal
decimal-length w n h l = rw length_digits (fewest-within (decimal-fewest n) h l)

-- and so a number of a width in bits
pub decimal-short : (bits w n : ℕ) → 1 ≤ w → 2 ^ bits ≤ 10 ^ w → n < 2 ^ bits → length (decimal n) ≤ w
decimal-short bits w n p h l = decimal-length w n p (lt_of_lt_of_le l h)

-- std's decimal digits are those of the lines
pub decimal_same : (n : ℕ) → n < 2 ^ 64 → std_decimal n ≡ decimal n
unfolding decimal
decimal_same = decimal_by_steps (λ m ds. ds ≡ decimal m) one more
  where
    digit : (d : ℕ) → d < 10 → hex_digit_ascii d ≡ 48 + d
    digit d h = rw (lt-ltb d 10 h)

    one : (n : ℕ) → n < 10 → (48 + n) ∷ [] ≡ decimal n
    one n h =
        let e : n % 10 ≡ n = omega arith in
        ap (λ (c : ℕ). c ∷ []) (sym (digit n h) ∙ ap hex_digit_ascii (sym e)) ∙ digits_decimal (fewest-one n h)

    more : (n : ℕ) (ds : List ℕ) → 10 ≤ n → ds ≡ decimal (n / 10) → ds ++ ((48 + n % 10) ∷ []) ≡ decimal n
    more n ds h e =
        (λ i. e i ++ (sym (digit (n % 10) (omega arith)) i ∷ [])) ∙ digits_decimal (fewest_more n (places_in (n / 10) (n / 10)) h (decimal-fewest (n / 10)))
