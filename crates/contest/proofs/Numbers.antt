-- Words of bits as numbers, the lowest bit first; and with one bit more in front, which makes the parity.
use mathlib.Core.Path.{◌≡◌, refl, sym, ap, ap₂, ◌∙◌}
use mathlib.Core.Logic.{◌≢◌}
use mathlib.Core.Bool.{Bool, true, false, not}
use mathlib.Core.List.{List, [], ◌∷◌}
use Prim.Native.Nat.{ℕ, zero, suc, ◌+◌, ◌-◌, ◌*◌, ◌/◌, ◌%◌, ◌^◌, ◌<◌}
use native.Mathlib.Omega.{arith}
use native.Mathlib.Nat.{pow-suc}
use lib.Dec.{eqb}
use lib.ListN.{length}
use Rattle.contest.specs.Words.{differ, one, odd}
use Rattle.contest.specs.Numbers.{val, bits, tops}

-- ---- one bit

pub one_small : (b : Bool) → one b < 2
one_small false = omega arith
one_small true = omega arith

pub one-not : (b : Bool) → 1 - one b ≡ one (not b)
one-not false = refl
one-not true = refl

pub one-differ : (b c : Bool) → (one c + one b) % 2 ≡ one (differ b c)
one-differ false false = refl
one-differ false true = refl
one-differ true false = refl
one-differ true true = refl

pub bit-same : (b : Bool) (p : ℕ) → one b ≡ p → b ≡ eqb p 1
bit-same false p e = rw (← e) refl
bit-same true p e = rw (← e) refl

pub bit-other : (b : Bool) (p : ℕ) → p < 2 → one b ≢ p → eqb p 1 ≢ b
bit-other false zero h d e = d refl
bit-other false (suc zero) h d e = let z : ◌≡◌ {A = ℕ} 0 1 = cc in omega arith
bit-other false (suc (suc p)) h d e = absurd (omega arith)
bit-other true zero h d e = let z : ◌≡◌ {A = ℕ} 0 1 = cc in omega arith
bit-other true (suc zero) h d e = d refl
bit-other true (suc (suc p)) h d e = absurd (omega arith)

-- ---- a word

pub bits-long : (n w : ℕ) → length (bits n w) ≡ n
bits-long zero w = refl
bits-long (suc n) w = ap suc (bits-long n (w / 2))

one_bit : (r : ℕ) → r < 2 → one (eqb r 1) ≡ r
one_bit zero h = refl
one_bit (suc zero) h = refl
one_bit (suc (suc r)) h = absurd (omega arith)

pub val-bits : (n w : ℕ) → w < 2 ^ n → val (bits n w) ≡ w
val-bits zero w h = omega arith
val-bits (suc n) w h =
    let g : w < 2 ^ n * 2 = rw pow-suc at h in
    omega (arith, val-bits n (w / 2) (omega arith), one_bit (w % 2) (omega arith))

bit-one : (b : Bool) (x : ℕ) → eqb ((2 * x + one b) % 2) 1 ≡ b
bit-one false x = let e : (2 * x + 0) % 2 ≡ 0 = omega arith in ap (λ (r : ℕ). eqb r 1) e
bit-one true x = let e : (2 * x + 1) % 2 ≡ 1 = omega arith in ap (λ (r : ℕ). eqb r 1) e

pub half-val : (b : Bool) (x : ℕ) → (2 * x + one b) / 2 ≡ x
half-val false x = omega arith
half-val true x = omega arith

pub bits-val : (bs : List Bool) → bits (length bs) (val bs) ≡ bs
bits-val [] = refl
bits-val (b ∷ bs) = ap₂ (λ (x : Bool) (y : List Bool). x ∷ y) (bit-one b (val bs)) (ap (bits (length bs)) (half-val b (val bs)) ∙ bits-val bs)

pub val_small : (bs : List Bool) → val bs < 2 ^ length bs
val_small [] = omega arith
val_small (false ∷ bs) = rw pow-suc (omega (arith, val_small bs))
val_small (true ∷ bs) = rw pow-suc (omega (arith, val_small bs))

-- ---- a word and its parity

twice : (p q : Bool) → differ (differ p q) q ≡ p
twice false false = refl
twice false true = refl
twice true false = refl
twice true true = refl

pub tops-odd : (n : ℕ) (p : Bool) (j : ℕ) → odd (tops n p j) ≡ p
tops-odd n p j = twice p (odd (bits n j))

pub val-tops : (n : ℕ) (p : Bool) (j : ℕ) → j < 2 ^ n → val (tops n p j) / 2 ≡ j
val-tops n p j h = half-val (differ p (odd (bits n j))) (val (bits n j)) ∙ val-bits n j h

pub tops-val : {n : ℕ} (ts : List Bool) → length ts ≡ suc n → tops n (odd ts) (val ts / 2) ≡ ts
tops-val [] e = absurd (omega arith)
tops-val {n} (t ∷ ts) e =
    let l : length ts ≡ n = omega arith in
    let g : bits n (val (t ∷ ts) / 2) ≡ ts = ap (bits n) (half-val t (val ts)) ∙ ap (λ (k : ℕ). bits k (val ts)) (sym l) ∙ bits-val ts in
    rw g (ap (λ (b : Bool). b ∷ ts) (twice t (odd ts)))

pub val-half : {n : ℕ} (ts : List Bool) → length ts ≡ suc n → val ts / 2 < 2 ^ n
val-half [] e = absurd (omega arith)
val-half {n} (t ∷ ts) e = let l : length ts ≡ n = omega arith in rw (half-val t (val ts), ← l) (val_small ts)
