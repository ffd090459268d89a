-- One turn of the loops over a reading: a word of marks takes one bit more, and a cost one confidence more.
-- Assumes nothing.
use mathlib.Core.Path.{◌≡◌, refl, sym, ap, ◌∙◌}
use mathlib.Core.Bool.{Bool, true, false}
use mathlib.Core.List.{List, [], ◌∷◌}
use Prim.Native.Nat.{ℕ, suc, ◌+◌, ◌-◌, ◌*◌, ◌/◌, ◌%◌, ◌^◌, ◌≤◌, ◌<◌}
use native.Mathlib.Nat.{pow-suc, add-mul, mul_assoc, mul_comm}
use native.Mathlib.Numerals.{add-one}
use native.Mathlib.Omega.{arith}
use lib.IntN.{ℤ, pos, nat_abs}
use lib.ListN.{length, drop, get_or, length-drop}
use lib.Seq.{drop-cons, drop-length}
use mir.Val.{bool_byte}
use Rattle.contest.specs.Words.{one}
use Rattle.contest.proofs.Numbers.{one_small}
use Rattle.signs.specs.Signs.{marked, cost, whole}
use Rattle.signs.proofs.Whole.{whole-itself, whole-none}

-- what is left after i, its first taken off
left_cons : (xs : List ℤ) (i : ℕ) → i < length xs → drop i xs ≡ get_or xs i (pos 0) ∷ drop (i + 1) xs
left_cons xs i h = rw (add-one) (drop-cons xs i (pos 0) h)

-- at the end nothing is left
nothing_left : (xs : List ℤ) (i : ℕ) → i ≡ length xs → drop i xs ≡ []
nothing_left xs i e = ap (λ (k : ℕ). drop k xs) e ∙ drop-length xs

-- ---- a word of marks

-- a mark as a number, as the library has it
pub byte_one : (b : Bool) → bool_byte b ≡ one b
byte_one true = refl
byte_one false = refl

doubled : (w p : ℕ) → w * (p * 2) ≡ 2 * w * p
doubled w p = sym (mul_assoc w p 2) ∙ mul_comm (w * p) 2 ∙ sym (mul_assoc 2 w p)

marked_turn :
    (test : ℤ → Bool) (xs : List ℤ) (i word : ℕ)
    → i < length xs
    → word * 2 ^ (length xs - i) + marked test (drop i xs)
    ≡ (2 * word + one (test (get_or xs i (pos 0)))) * 2 ^ (length xs - (i + 1)) + marked test (drop (i + 1) xs)
unfolding marked
marked_turn test xs i word h =
    let n = length xs - (i + 1) in
    let b = one (test (get_or xs i (pos 0))) in
    let e : length xs - i ≡ suc n = omega arith in
    let s : marked test (drop i xs) ≡ b * 2 ^ n + marked test (drop (i + 1) xs) =
    ap (marked test) (left_cons xs i h) ∙ ap (λ (k : ℕ). b * 2 ^ k + marked test (drop (i + 1) xs)) (length-drop (i + 1) xs) in
    omega (arith, s, ap (λ (k : ℕ). word * 2 ^ k) e, ap (λ (k : ℕ). word * k) (pow-suc 2 n), doubled word (2 ^ n), add-mul (2 * word) b (2 ^ n))

-- the first i bits of the word of marks of n confidences
pub record Begun (test : ℤ → Bool) (n : ℕ) (xs : List ℤ) (word i : ℕ) : Type 0 where
  pub long : length xs ≡ n
  pub within : i ≤ n
  pub short : word < 2 ^ i
  pub rest : word * 2 ^ (length xs - i) + marked test (drop i xs) ≡ marked test xs

module _ {test : ℤ → Bool} {n : ℕ} {xs : List ℤ} where
  pub begun : length xs ≡ n → Begun test n xs 0 0
  begun l = record { long = l; within = omega arith; short = omega arith; rest = omega arith }

  module _ {word i : ℕ} (B : Begun test n xs word i) where
    pub begun_turn : i < n → {b : ℕ} → b ≡ one (test (get_or xs i (pos 0))) → Begun test n xs (2 * word + b) (i + 1)
    begun_turn h {b} e = record {
      long = B.long;
      within = omega arith;
      short = omega (arith, e, one_small (test (get_or xs i (pos 0))), ap (λ (k : ℕ). 2 ^ k) (add-one i), pow-suc 2 i, B.short);
      rest =
          ap (λ (x : ℕ). (2 * word + x) * 2 ^ (length xs - (i + 1)) + marked test (drop (i + 1) xs)) e
          ∙ sym (marked_turn test xs i word (omega (arith, B.long))) ∙ B.rest;
    }

    pub begun_end : i ≡ n → (word ≡ marked test (whole n xs)) × (word < 2 ^ n)
    unfolding marked
    begun_end e =
        let z : length xs - i ≡ 0 = omega (arith, B.long) in
        let f : word ≡ marked test xs =
        omega (arith, B.rest, ap (marked test) (nothing_left xs i (e ∙ sym B.long)), ap (λ (k : ℕ). word * 2 ^ k) z) in
        (f ∙ ap (marked test) (sym (whole-itself n xs B.long)), rw e at B.short)

-- of a slice that is no reading the word is 0
pub none-marked : (test : ℤ → Bool) (n : ℕ) (xs : List ℤ) → (length xs ≡ n → ⊥) → 0 ≡ marked test (whole n xs)
unfolding marked
none-marked test n xs l = sym (ap (marked test) (whole-none n xs l))

-- ---- a cost

pub cost-turn :
    (error : ℕ) (xs : List ℤ) (i : ℕ)
    → i < length xs
    → cost error (drop i xs) ≡ error / 2 ^ (length xs - (i + 1)) % 2 * nat_abs (get_or xs i (pos 0)) + cost error (drop (i + 1) xs)
unfolding cost
cost-turn error xs i h =
    ap (cost error) (left_cons xs i h)
    ∙ ap (λ (k : ℕ). error / 2 ^ k % 2 * nat_abs (get_or xs i (pos 0)) + cost error (drop (i + 1) xs)) (length-drop (i + 1) xs)

pub cost_end : (error : ℕ) (xs : List ℤ) (sum i : ℕ) → i ≡ length xs → sum ≡ sum + cost error (drop i xs)
unfolding cost
cost_end error xs sum i e = omega (arith, ap (cost error) (nothing_left xs i e))
