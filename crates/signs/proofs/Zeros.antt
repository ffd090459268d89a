-- Zeros of a reading: what the test says of a number, how many there are, and that the ones of their word are as many.
-- Assumes nothing.
use mathlib.Core.Path.{◌≡◌, refl, sym, ap, ◌∙◌}
use mathlib.Core.Logic.{◌≢◌}
use mathlib.Core.Bool.{Bool, true, false, not, ◌||◌, ◌&&◌, true≢false, false≢true}
use mathlib.Core.List.{List, [], ◌∷◌}
use Prim.Native.Nat.{ℕ, zero, suc, ◌+◌, ◌^◌, ◌*◌, ◌≤◌, ◌<◌}
use native.Mathlib.Omega.{arith}
use native.Mathlib.Nat.{one-mul, zero-mul, pow-suc}
use lib.IntN.{ℤ, pos, negsuc}
use lib.ListN.{length}
use Rattle.std.specs.List.{list_all}
use Rattle.binary.specs.Words.{ones}
use Rattle.binary.proofs.Ones.{ones_zero}
use Rattle.binary.proofs.Places.{ones-top}
use Rattle.contest.specs.Words.{one}
use Rattle.reading.specs.Checks.{is_most_negative, most_negative}
use Rattle.signs.specs.Signs.{marked}
use Rattle.signs.specs.Fillings.{is_zero, zeros, zero_word, Clear}

pub zero_is : (x : ℤ) → is_zero x ≡ true → x ≡ pos 0
zero_is (pos zero) e = refl
zero_is (pos (suc n)) e = let z : ◌≡◌ {A = ℕ} 0 1 = cc in let f : ⊥ = omega arith in absurd f
zero_is (negsuc n) e = let z : ◌≡◌ {A = ℕ} 0 1 = cc in let f : ⊥ = omega arith in absurd f

pub other_than_zero : (x : ℤ) → is_zero x ≡ false → x ≢ pos 0
other_than_zero x e z = let y : ◌≡◌ {A = Bool} true false = sym (ap is_zero z) ∙ e in let w : ◌≡◌ {A = ℕ} 0 1 = cc in omega arith

-- what is found by asking each one for both
abbrev has_sign : ℤ → Bool
has_sign x = not (is_most_negative x || is_zero x)

all-clear : (xs : List ℤ) → list_all has_sign xs ≡ true → (most_negative xs ≡ false) × (zeros xs ≡ 0)
unfolding zeros
all-clear [] e = (refl, refl)
all-clear (x ∷ xs) e = go (is_most_negative x) (is_zero x) (all-clear xs) e
  where
    go :
        (m z : Bool)
        → (list_all has_sign xs ≡ true → (most_negative xs ≡ false) × (zeros xs ≡ 0))
        → (not (m || z) && list_all has_sign xs) ≡ true
        → ((m || most_negative xs) ≡ false) × (one z + zeros xs ≡ 0)
    go false false f e = let h = f e in (h.0, omega (arith, h.1))
    go false true f e = absurd (false≢true e)
    go true z f e = absurd (false≢true e)

some-clear : (xs : List ℤ) → list_all has_sign xs ≡ false → most_negative xs ≡ false → 0 < zeros xs
unfolding zeros
some-clear [] e n = absurd (true≢false e)
some-clear (x ∷ xs) e n = go (is_most_negative x) (is_zero x) (some-clear xs) e n
  where
    go :
        (m z : Bool)
        → (list_all has_sign xs ≡ false → most_negative xs ≡ false → 0 < zeros xs)
        → (not (m || z) && list_all has_sign xs) ≡ false
        → (m || most_negative xs) ≡ false
        → 0 < one z + zeros xs
    go false false f e n = omega (arith, f e n)
    go false true f e n = omega arith
    go true z f e n = absurd (true≢false n)

pub clear_all : (xs : List ℤ) (r : Bool) → r ≡ list_all has_sign xs → Clear xs r
clear_all xs r e = record {
  valid = λ g. (all-clear xs (sym e ∙ g)).0;
  none = λ g. (all-clear xs (sym e ∙ g)).1;
  some = λ g n. some-clear xs (sym e ∙ g) n;
}

-- two allowed answers of the test for both are equal
pub clear-once : {xs : List ℤ} (a b : Bool) → Clear xs a → Clear xs b → a ≡ b
clear-once true true p q = refl
clear-once true false p q = absurd (omega (arith, p.none refl, q.some refl (p.valid refl)))
clear-once false true p q = absurd (omega (arith, q.none refl, p.some refl (q.valid refl)))
clear-once false false p q = refl

mark_le : (b : Bool) (p : ℕ) → one b * p ≤ p
mark_le true p = omega (arith, one-mul p)
mark_le false p = omega (arith, zero-mul p)

pub marked_lt : (test : ℤ → Bool) (xs : List ℤ) → marked test xs < 2 ^ length xs
unfolding marked
marked_lt test [] = omega arith
marked_lt test (x ∷ xs) = omega (arith, mark_le (test x) (2 ^ length xs), pow-suc 2 (length xs), marked_lt test xs)

-- of up to n positions
pub zeros-ones : (n : ℕ) (xs : List ℤ) → length xs ≤ n → ones n (zero_word xs) ≡ zeros xs
unfolding marked zeros
zeros-ones n [] h = ones_zero n
zeros-ones n (x ∷ xs) h = go (is_zero x) (zeros-ones n xs (omega arith))
  where
    go : (b : Bool) → ones n (zero_word xs) ≡ zeros xs → ones n (one b * 2 ^ length xs + zero_word xs) ≡ one b + zeros xs
    go false e = ap (ones n) (omega (arith, zero-mul (2 ^ length xs))) ∙ e ∙ omega arith
    go true e =
        ones-top (record { place = omega arith; below = marked_lt is_zero xs; whole = omega (arith, one-mul (2 ^ length xs)) })
        ∙ ap suc e ∙ omega arith
