-- What is read off a column (its parity, its projection and the products of that, its top bit) is linear on its sixteen values, by a test of
-- them; so it adds up when two words are added, and so does a number that is made of such pieces side by side.
-- Assumes nothing.
use mathlib.Core.Path.{◌≡◌, refl, sym, ap, ap₂, ◌∙◌}
use mathlib.Core.Bool.{Bool, ◌&&◌}
use mathlib.Core.List.{List, [], ◌∷◌}
use Prim.Native.Nat.{ℕ, ◌+◌, ◌*◌, ◌/◌, ◌%◌, ◌^◌, ◌<◌}
use native.Mathlib.Nat.{mod-lt}
use native.Mathlib.Omega.{arith}
use lib.Dec.{T, eqb, eqb→eq, lit<}
use lib.Arith.{digits_lt}
use lib.ListN.{get_or}
use lib.Pow.{pow_pos, pow-add}
use lib.Bits.{bit_xor, bit_and, xor_shr, xor_mod, xor_lt, xor_block, xor_add_and}
use Rattle.binary.specs.Words.{row_sum}
use Rattle.binary.proofs.Tests.{and_left, and_right, all, below}
use Rattle.binary.proofs.Xor.{xor_swap}
use Rattle.binary.proofs.Linear.{row_sum-add, row_sum_lt, short}
use Rattle.code.specs.Characters.{◌⊗◌, w, v}
use Rattle.code.specs.Array.{bit, parity, top_row, projection, interpretations, interpretation}

-- z is the sum of x and y, which have at most k bits
pub record Added (k x y z : ℕ) : Type 0 where
  pub sum : z ≡ bit_xor x y
  pub left : x < 2 ^ k
  pub right : y < 2 ^ k

pub added_xor : {k x y z x' y' z' : ℕ} → Added k x y z → Added k x' y' z' → Added k (bit_xor x x') (bit_xor y y') (bit_xor z z')
added_xor {k} {x} {y} {z} {x'} {y'} {z'} s t = record {
  sum = ap₂ bit_xor s.sum t.sum ∙ xor_swap x y x' y';
  left = xor_lt k x x' s.left t.left;
  right = xor_lt k y y' s.right t.right;
}

-- two pieces side by side, the second of k bits
pub side_by_side :
    {j x y z : ℕ} (k : ℕ) {x' y' z' : ℕ}
    → Added j x y z
    → Added k x' y' z'
    → Added (j + k) (x * 2 ^ k + x') (y * 2 ^ k + y') (z * 2 ^ k + z')
side_by_side {j} {x} {y} k {x'} {y'} s t = record {
  sum = ap₂ (λ (p q : ℕ). p * 2 ^ k + q) s.sum t.sum ∙ sym (xor_block k x y x' y' t.left t.right);
  left = rw pow-add (digits_lt s.left t.left);
  right = rw pow-add (digits_lt s.right t.right);
}

same-parity : (sum carry x y : ℕ) → sum + carry * 2 ≡ x + y → (x + y) % 2 ≡ sum % 2
same-parity sum carry x y e = omega arith

parity_plus : (x y : ℕ) → (x + y) % 2 ≡ bit_xor (x % 2) (y % 2)
parity_plus x y = same-parity (bit_xor x y) (bit_and x y) x y (xor_add_and x y) ∙ xor_mod x y 1

-- the parity of z is the sum of those of x and y
pub record AddedParity (x y z : ℕ) : Type 0 where
  pub parities : Added 1 (x % 2) (y % 2) (z % 2)

pub added_plus : {x y z x' y' z' : ℕ} → AddedParity x y z → AddedParity x' y' z' → AddedParity (x + x') (y + y') (z + z')
added_plus {x} {y} {z} {x'} {y'} {z'} s t = record
    { parities = rw (parity_plus x x', parity_plus y y', parity_plus z z') (added_xor s.parities t.parities) }

-- k bits of a word, s up
pub bits-read : (k a b s : ℕ) → Added k (a / 2 ^ s % 2 ^ k) (b / 2 ^ s % 2 ^ k) (bit_xor a b / 2 ^ s % 2 ^ k)
bits-read k a b s = record {
  sum = ap (λ (x : ℕ). x % 2 ^ k) (xor_shr a b s) ∙ xor_mod (a / 2 ^ s) (b / 2 ^ s) k;
  left = mod-lt (a / 2 ^ s) (pow_pos k);
  right = mod-lt (b / 2 ^ s) (pow_pos k);
}

-- f is the row sum of the rows at x
abbrev linear : (ℕ → ℕ) → List ℕ → ℕ → Bool
linear f rows x = eqb (f x) (row_sum rows x)

-- what f, which is linear on j bits, makes of two numbers and of their sum
pub made :
    (f : ℕ → ℕ) (rows : List ℕ) (j k : ℕ) → T (all (linear f rows) (2 ^ j)) → T (short k rows)
    → {x y z : ℕ} → Added j x y z → Added k (f x) (f y) (f z)
made f rows j k t q {x} {y} {z} s =
    let at : (w : ℕ) → w < 2 ^ j → f w ≡ row_sum rows w = λ w h. eqb→eq (f w) (row_sum rows w) (below (linear f rows) (2 ^ j) t w h) in
    record {
      sum =
          ap f s.sum ∙ at (bit_xor x y) (xor_lt j x y s.left s.right)
          ∙ row_sum-add rows x y ∙ sym (ap₂ bit_xor (at x s.left) (at y s.right));
      left = rw (at x s.left) (row_sum_lt k rows q x);
      right = rw (at y s.right) (row_sum_lt k rows q y);
    }

pub times_w : {x y z : ℕ} → Added 2 x y z → Added 2 (x ⊗ w) (y ⊗ w) (z ⊗ w)
times_w = made (λ x. x ⊗ w) (2 ∷ 3 ∷ []) 2 2 tt tt

pub times_v : {x y z : ℕ} → Added 2 x y z → Added 2 (x ⊗ v) (y ⊗ v) (z ⊗ v)
times_v = made (λ x. x ⊗ v) (3 ∷ 1 ∷ []) 2 2 tt tt

pub bit-parity : {x y z : ℕ} → Added 1 x y z → AddedParity x y z
bit-parity s = record { parities = made (λ x. x % 2) (1 ∷ []) 1 1 tt tt s }

pub no_parity : AddedParity 0 0 0
no_parity = record { parities = record { sum = refl; left = lit< tt; right = lit< tt } }

module _ (a b : ℕ) where
  pub parity-read : (s : ℕ) → Added 1 (parity (a / 2 ^ s % 16)) (parity (b / 2 ^ s % 16)) (parity (bit_xor a b / 2 ^ s % 16))
  parity-read s = made parity (1 ∷ 1 ∷ 1 ∷ 1 ∷ []) 4 1 tt tt (bits-read 4 a b s)

  pub top_read : (s : ℕ) → Added 1 (bit 1 (a / 2 ^ s % 16)) (bit 1 (b / 2 ^ s % 16)) (bit 1 (bit_xor a b / 2 ^ s % 16))
  top_read s = made (bit 1) (0 ∷ 0 ∷ 0 ∷ 1 ∷ []) 4 1 tt tt (bits-read 4 a b s)

  pub projection-read : (s : ℕ) → Added 2 (projection (a / 2 ^ s % 16)) (projection (b / 2 ^ s % 16)) (projection (bit_xor a b / 2 ^ s % 16))
  projection-read s = made projection (3 ∷ 2 ∷ 1 ∷ 0 ∷ []) 4 2 tt tt (bits-read 4 a b s)

  pub top_row-read : Added 1 (top_row a) (top_row b) (top_row (bit_xor a b))
  top_row-read =
      let t : (s : ℕ) → AddedParity (bit 1 (a / 2 ^ s % 16)) (bit 1 (b / 2 ^ s % 16)) (bit 1 (bit_xor a b / 2 ^ s % 16)) = λ s. bit-parity (top_read s) in
      (added_plus (t 20) (added_plus (t 16) (added_plus (t 12) (added_plus (t 8) (added_plus (t 4) (added_plus (t 0) no_parity)))))).parities

-- ---- the table of columns

reads_back : ℕ → Bool
reads_back n =
    eqb (parity (get_or interpretations n 0)) (n / 8) && eqb (projection (get_or interpretations n 0)) (n / 2 % 4)
    && eqb (bit 1 (get_or interpretations n 0)) (n % 2)

all-read_back : T (all reads_back 16)
unfolding reads_back
all-read_back = tt

-- the column that a parity, a character and a top bit pick has that parity, projects to that character and has that top bit
pub interpretation-fits :
    (p x top : ℕ)
    → p < 2
    → x < 4
    → top < 2
    → (parity (interpretation p x top) ≡ p) × (projection (interpretation p x top) ≡ x) × (bit 1 (interpretation p x top) ≡ top)
unfolding reads_back
interpretation-fits p x top hp hx ht =
    let n = p * 8 + x * 2 + top in
    let c = interpretation p x top in
    let P = eqb (parity c) (n / 8) in
    let X = eqb (projection c) (n / 2 % 4) in
    let Q = eqb (bit 1 c) (n % 2) in
    let t : T (P && X && Q) = below reads_back 16 all-read_back n (omega arith) in
    let b = and_left (P && X) Q t in
    let ep : n / 8 ≡ p = omega arith in
    let ex : n / 2 % 4 ≡ x = omega arith in
    let et : n % 2 ≡ top = omega arith in (
      eqb→eq (parity c) (n / 8) (and_left P X b) ∙ ep,
      eqb→eq (projection c) (n / 2 % 4) (and_right P X b) ∙ ex,
      eqb→eq (bit 1 c) (n % 2) (and_right (P && X) Q t) ∙ et,
    )
