-- Laws of the exclusive or that the language's library lacks: it is associative, so sums may be regrouped, and it undoes itself.
-- Assumes nothing.
use mathlib.Core.Path.{◌≡◌, refl, sym, ap, ap₂, ◌∙◌}
use Prim.Native.Nat.{ℕ, zero, suc, ◌+◌, ◌*◌, ◌/◌, ◌%◌, ◌<◌}
use native.Mathlib.Nat.{le_of_suc-le-suc, not-suc-le-zero, mod-lt, zero-lt-suc}
use lib.Arith.{bin_ind}
use lib.Pow.{split}
use lib.Bits.{bit_xor, xor_shr, xor_mod, xor_zero_r, xor_self, xor_comm}

-- what holds of 0 and of 1 holds of a bit
pub two_cases : (P : ℕ → Type 0) → P 0 → P 1 → (n : ℕ) → n < 2 → P n
two_cases P a b zero h = a
two_cases P a b (suc zero) h = b
two_cases P a b (suc (suc n)) h = absurd (not-suc-le-zero (le_of_suc-le-suc (le_of_suc-le-suc h)))

pub bit_lt : (n : ℕ) → n % 2 < 2
bit_lt n = mod-lt n (zero-lt-suc 1)

digits : (a b : ℕ) → bit_xor a b ≡ bit_xor (a / 2) (b / 2) * 2 + bit_xor (a % 2) (b % 2)
digits a b = sym (split (bit_xor a b) 1) ∙ ap₂ (λ (x y : ℕ). x * 2 + y) (xor_shr a b 1) (xor_mod a b 1)

Assoc : ℕ → ℕ → ℕ → Type 0
Assoc a b c = bit_xor (bit_xor a b) c ≡ bit_xor a (bit_xor b c)

assoc_bits : (a : ℕ) → a < 2 → (b : ℕ) → b < 2 → (c : ℕ) → c < 2 → Assoc a b c
unfolding Assoc
assoc_bits =
    two_cases (λ a. (b : ℕ) → b < 2 → (c : ℕ) → c < 2 → Assoc a b c)
    (λ b hb c hc. refl)
    (two_cases (λ b. (c : ℕ) → c < 2 → Assoc 1 b c) (λ c hc. refl) (two_cases (λ c. Assoc 1 1 c) refl refl))

pub xor_assoc : (a b c : ℕ) → bit_xor (bit_xor a b) c ≡ bit_xor a (bit_xor b c)
unfolding Assoc
xor_assoc =
    bin_ind (λ n. (b c : ℕ) → bit_xor (bit_xor n b) c ≡ bit_xor n (bit_xor b c)) (λ b c. refl)
    (λ n ih b c.
    digits (bit_xor n b) c
    ∙ ap₂ (λ (x y : ℕ). bit_xor x (c / 2) * 2 + bit_xor y (c % 2)) (xor_shr n b 1) (xor_mod n b 1)
    ∙ ap₂ (λ (x y : ℕ). x * 2 + y) (ih (b / 2) (c / 2)) (assoc_bits (n % 2) (bit_lt n) (b % 2) (bit_lt b) (c % 2) (bit_lt c))
    ∙ sym (ap₂ (λ (x y : ℕ). bit_xor (n / 2) x * 2 + bit_xor (n % 2) y) (xor_shr b c 1) (xor_mod b c 1))
    ∙ sym (digits n (bit_xor b c)))

-- the two middle ones of four change places
pub xor_swap : (a b c d : ℕ) → bit_xor (bit_xor a b) (bit_xor c d) ≡ bit_xor (bit_xor a c) (bit_xor b d)
xor_swap a b c d =
    xor_assoc a b (bit_xor c d)
    ∙ ap (bit_xor a) (sym (xor_assoc b c d) ∙ ap (λ (x : ℕ). bit_xor x d) (xor_comm b c) ∙ xor_assoc c b d)
    ∙ sym (xor_assoc a c (bit_xor b d))

pub xor_back : (a b : ℕ) → bit_xor a (bit_xor a b) ≡ b
xor_back a b = sym (xor_assoc a a b) ∙ ap (λ (x : ℕ). bit_xor x b) (xor_self a)

pub xor_zero_eq : (a b : ℕ) → bit_xor a b ≡ 0 → a ≡ b
xor_zero_eq a b e = sym (xor_zero_r a) ∙ ap (bit_xor a) (sym e) ∙ xor_back a b

pub eq_xor_zero : (a b : ℕ) → a ≡ b → bit_xor a b ≡ 0
eq_xor_zero a b e = ap (λ (x : ℕ). bit_xor x b) e ∙ xor_self b
