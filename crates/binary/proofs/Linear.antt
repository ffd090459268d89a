-- Linear maps of words: a row for each bit. They are additive, and two additive maps that agree at the powers of two agree everywhere,
-- so a linear claim about 2 ^ n words is a computed test of n of them.
-- Assumes nothing.
use mathlib.Core.Path.{◌≡◌, refl, sym, ap, ap₂, ◌∙◌, subst}
use mathlib.Core.Bool.{Bool, true, ◌&&◌}
use mathlib.Core.List.{List, [], ◌∷◌}
use Prim.Native.Nat.{ℕ, zero, suc, ◌+◌, ◌*◌, ◌/◌, ◌%◌, ◌^◌, ◌<◌}
use native.Mathlib.Numerals.{add-one}
use native.Mathlib.Nat.{le_of_suc-le-suc, not-suc-le-zero, mod-lt, zero-mul, one-mul, pow-suc, div-lt_iff_lt-mul, mul_comm}
use lib.Dec.{T, eqb, eqb→eq, ltb, ltb→lt}
use lib.Pow.{pow_pos, split}
use lib.Bits.{bit_xor, xor_shr, xor_mod, xor_zero_r, xor_self, xor_lt, xor_shifted}
use lib.ListN.{length, drop, get_or}
use lib.Seq.{drop-cons}
use Rattle.binary.specs.Words.{row_sum}
use Rattle.binary.proofs.Tests.{and_left, and_right, all}
use Rattle.binary.proofs.Xor.{two_cases, bit_lt, xor_assoc, xor_swap, xor_back}

abbrev pub Additive : (ℕ → ℕ) → Type 0
Additive f = (a b : ℕ) → f (bit_xor a b) ≡ bit_xor (f a) (f b)

pub additive_after : (f g : ℕ → ℕ) → Additive f → Additive g → Additive (λ w. f (g w))
additive_after f g A B a b = ap f (B a b) ∙ A (g a) (g b)

pub additive_sum : (f g : ℕ → ℕ) → Additive f → Additive g → Additive (λ w. bit_xor (f w) (g w))
additive_sum f g A B a b = ap₂ bit_xor (A a b) (B a b) ∙ xor_swap (f a) (f b) (g a) (g b)

pub additive_zero : (f : ℕ → ℕ) → Additive f → f 0 ≡ 0
additive_zero f A = sym (xor_back (f 0) (f 0)) ∙ ap (bit_xor (f 0)) (sym (A 0 0)) ∙ xor_self (f 0)

-- ---- a row for each bit

pick_add : (r x : ℕ) → x < 2 → (y : ℕ) → y < 2 → bit_xor x y * r ≡ bit_xor (x * r) (y * r)
pick_add r =
    two_cases (λ x. (y : ℕ) → y < 2 → bit_xor x y * r ≡ bit_xor (x * r) (y * r))
    (λ y hy. sym (ap (λ (z : ℕ). bit_xor z (y * r)) (zero-mul r)))
    (two_cases (λ y. bit_xor 1 y * r ≡ bit_xor (1 * r) (y * r))
    (sym (ap (bit_xor (1 * r)) (zero-mul r) ∙ xor_zero_r (1 * r)))
    (zero-mul r ∙ sym (xor_self (1 * r))))

pub row_sum-add : (rs : List ℕ) → Additive (row_sum rs)
row_sum-add [] a b = refl
row_sum-add (r ∷ rs) a b =
    ap₂ (λ (x y : ℕ). bit_xor (x * r) (row_sum rs y)) (xor_mod a b 1) (xor_shr a b 1)
    ∙ ap₂ bit_xor (pick_add r (a % 2) (bit_lt a) (b % 2) (bit_lt b)) (row_sum-add rs (a / 2) (b / 2))
    ∙ xor_swap (a % 2 * r) (b % 2 * r) (row_sum rs (a / 2)) (row_sum rs (b / 2))

-- every row has at most k bits
abbrev pub short : ℕ → List ℕ → Bool
short k [] = true
short k (r ∷ rs) = ltb r (2 ^ k) && short k rs

pub pick_lt : (k r : ℕ) → r < 2 ^ k → (x : ℕ) → x < 2 → x * r < 2 ^ k
pick_lt k r h =
    two_cases (λ x. x * r < 2 ^ k)
    (subst (λ (y : ℕ). y < 2 ^ k) (sym (zero-mul r)) (pow_pos k))
    (subst (λ (y : ℕ). y < 2 ^ k) (sym (one-mul r)) h)

pub row_sum_lt : (k : ℕ) (rs : List ℕ) → T (short k rs) → (w : ℕ) → row_sum rs w < 2 ^ k
row_sum_lt k [] t w = pow_pos k
row_sum_lt k (r ∷ rs) t w =
    xor_lt k (w % 2 * r) (row_sum rs (w / 2))
    (pick_lt k r (ltb→lt r (2 ^ k) (and_left (ltb r (2 ^ k)) (short k rs) t)) (w % 2) (bit_lt w))
    (row_sum_lt k rs (and_right (ltb r (2 ^ k)) (short k rs) t) (w / 2))

-- one turn of a loop over the rows: the sum so far takes in row i where the lowest bit left is 1
pub row_sum-turn :
    (rs : List ℕ) (sum left i : ℕ)
    → i < length rs
    → bit_xor sum (row_sum (drop i rs) left) ≡ bit_xor (bit_xor sum (left % 2 * get_or rs i 0)) (row_sum (drop (i + 1) rs) (left / 2))
row_sum-turn rs sum left i h =
    ap (λ (l : List ℕ). bit_xor sum (row_sum l left)) (drop-cons rs i 0 h)
    ∙ ap (λ (j : ℕ). bit_xor sum (bit_xor (left % 2 * get_or rs i 0) (row_sum (drop j rs) (left / 2)))) (sym (add-one i))
    ∙ sym (xor_assoc sum (left % 2 * get_or rs i 0) (row_sum (drop (i + 1) rs) (left / 2)))

-- ---- agreement at the powers of two

abbrev pub same_at : (ℕ → ℕ) → (ℕ → ℕ) → ℕ → Bool
same_at f g k = eqb (f (2 ^ k)) (g (2 ^ k))

pub top-bit_lt : (n w : ℕ) → w < 2 ^ suc n → w / 2 ^ n < 2
top-bit_lt n w h = (div-lt_iff_lt-mul (pow_pos n)).1 (subst (λ (x : ℕ). w < x) (pow-suc 2 n ∙ mul_comm (2 ^ n) 2) h)

module _ (f g : ℕ → ℕ) (A : Additive f) (B : Additive g) where
  same_bit : (p : ℕ) → f p ≡ g p → (x : ℕ) → x < 2 → f (x * p) ≡ g (x * p)
  same_bit p e =
      two_cases (λ x. f (x * p) ≡ g (x * p))
      (ap f (zero-mul p) ∙ additive_zero f A ∙ sym (additive_zero g B) ∙ ap g (sym (zero-mul p)))
      (ap f (one-mul p) ∙ e ∙ ap g (sym (one-mul p)))

  pub agree : (n : ℕ) → T (all (same_at f g) n) → (w : ℕ) → w < 2 ^ n → f w ≡ g w
  agree zero t zero h = additive_zero f A ∙ sym (additive_zero g B)
  agree zero t (suc w) h = absurd (not-suc-le-zero (le_of_suc-le-suc h))
  agree (suc n) t w h =
      let e : w ≡ bit_xor (w / 2 ^ n * 2 ^ n) (w % 2 ^ n) = sym (split w n) ∙ sym (xor_shifted (w / 2 ^ n) n (w % 2 ^ n) (mod-lt w (pow_pos n))) in
      ap f e ∙ A (w / 2 ^ n * 2 ^ n) (w % 2 ^ n)
      ∙ ap₂ bit_xor
      (same_bit (2 ^ n) (eqb→eq (f (2 ^ n)) (g (2 ^ n)) (and_left (same_at f g n) (all (same_at f g) n) t)) (w / 2 ^ n) (top-bit_lt n w h))
      (agree n (and_right (same_at f g n) (all (same_at f g) n) t) (w % 2 ^ n) (mod-lt w (pow_pos n)))
      ∙ sym (B (w / 2 ^ n * 2 ^ n) (w % 2 ^ n)) ∙ ap g (sym e)
