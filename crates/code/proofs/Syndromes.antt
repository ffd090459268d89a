-- The syndrome of a sum is the sum of the syndromes (4.3), so it is a row for each position; and the codewords are the words where it is 0 (4.2).
-- Assumes nothing.
use mathlib.Core.Path.{◌≡◌, refl, ap₂}
use mathlib.Core.Bool.{Bool, true, false, ◌&&◌}
use mathlib.Core.List.{List, [], ◌∷◌, map}
use Prim.Native.Nat.{ℕ, ◌+◌, ◌*◌, ◌^◌, ◌<◌}
use native.Mathlib.Omega.{arith}
use lib.Dec.{T, eqb, eqb→eq, eqb_refl}
use lib.Bits.{bit_xor}
use lib.ListN.{replicate}
use Rattle.binary.specs.Words.{row_sum}
use Rattle.binary.proofs.Tests.{and_left, and_right}
use Rattle.binary.proofs.Xor.{xor_zero_eq, eq_xor_zero}
use Rattle.binary.proofs.Linear.{Additive, row_sum-add, agree}
use Rattle.code.specs.Characters.{fourth, fifth, sixth, hexacodeword}
use Rattle.code.specs.Array.{column, columns, parity, top_row, projection}
use Rattle.code.specs.Code.{words, same, is_codeword, syndrome_bits, syndrome_of}
use Rattle.code.proofs.Columns.{Added, added_xor, side_by_side, parity-read, top_row-read, projection-read, times_w, times_v}

module _ (a b : ℕ) where
  syndrome_added : Added 12 (syndrome_of a) (syndrome_of b) (syndrome_of (bit_xor a b))
  unfolding syndrome_of
  syndrome_added =
      let p = parity-read a b in
      let x = projection-read a b in
      side_by_side 2
      (side_by_side 2
      (side_by_side 2
      (side_by_side 1
      (side_by_side 1
      (side_by_side 1
      (side_by_side 1
      (side_by_side 1
      (added_xor (p 16) (p 20))
      (added_xor (p 12) (p 20)))
      (added_xor (p 8) (p 20)))
      (added_xor (p 4) (p 20)))
      (added_xor (p 0) (p 20)))
      (added_xor (top_row-read a b) (p 20)))
      (added_xor (x 8) (added_xor (added_xor (x 20) (x 16)) (x 12))))
      (added_xor (x 4) (added_xor (added_xor (times_v (x 20)) (times_w (x 16))) (x 12))))
      (added_xor (x 0) (added_xor (added_xor (times_w (x 20)) (times_v (x 16))) (x 12)))

pub syndrome-add : Additive syndrome_of
syndrome-add a b = (syndrome_added a b).sum

pub syndrome_lt : (word : ℕ) → syndrome_of word < 2 ^ 12
syndrome_lt word = (syndrome_added word word).left

-- the syndromes of the single positions, position 24 first
abbrev pub syndrome_rows : List ℕ
syndrome_rows =
    0x083 ∷ 0x082 ∷ 0x081 ∷ 0x0C0 ∷ 0x10C ∷ 0x108 ∷ 0x104 ∷ 0x140 ∷ 0x230 ∷ 0x220 ∷ 0x210 ∷ 0x240 ∷ 0x43F ∷ 0x42A ∷ 0x415 ∷ 0x440
    ∷ 0x836 ∷ 0x82D ∷ 0x81B ∷ 0x840 ∷ 0xFF9 ∷ 0xFE7 ∷ 0xFDE ∷ 0xF80 ∷ []

pub syndrome_rows_lem : (word : ℕ) → word < words → syndrome_of word ≡ row_sum syndrome_rows word
unfolding syndrome_of
syndrome_rows_lem = agree syndrome_of (row_sum syndrome_rows) syndrome-add (row_sum-add syndrome_rows) 24 tt

-- ---- zero exactly for codewords

same_eq : (xs ys : List ℕ) → T (same xs ys) → xs ≡ ys
same_eq [] [] t = refl
same_eq [] (y ∷ ys) t = absurd t
same_eq (x ∷ xs) [] t = absurd t
same_eq (x ∷ xs) (y ∷ ys) t = ap₂ ◌∷◌ (eqb→eq x y (and_left (eqb x y) (same xs ys) t)) (same_eq xs ys (and_right (eqb x y) (same xs ys) t))

and_both : (a b : Bool) → T a → T b → T (a && b)
and_both true b s t = t
and_both false b s t = s

same_refl : (xs : List ℕ) → T (same xs xs)
same_refl [] = tt
same_refl (x ∷ xs) = and_both (eqb x x) (same xs xs) (eqb_refl x) (same_refl xs)

eq_same : (xs ys : List ℕ) → xs ≡ ys → T (same xs ys)
eq_same xs ys e = rw (← e) (same_refl xs)

-- a codeword's three conditions, as equations
pub record Codeword (word : ℕ) : Type 0 where
  pub alike : map parity (columns word) ≡ replicate 6 (parity (column 1 word))
  pub top : top_row word ≡ parity (column 1 word)
  pub hexacode :
      map projection (columns word)
      ≡ hexacodeword (projection (column 1 word)) (projection (column 2 word)) (projection (column 3 word))

-- the tests that make up `is_codeword`, over any values
conditions : (ps qs : List ℕ) (t p : ℕ) (xs ys : List ℕ) → T (same ps qs && eqb t p && same xs ys) → (ps ≡ qs) × (t ≡ p) × (xs ≡ ys)
conditions ps qs t p xs ys h =
    let g = and_left (same ps qs && eqb t p) (same xs ys) h in (
      same_eq ps qs (and_left (same ps qs) (eqb t p) g),
      eqb→eq t p (and_right (same ps qs) (eqb t p) g),
      same_eq xs ys (and_right (same ps qs && eqb t p) (same xs ys) h),
    )

tests : (ps qs : List ℕ) (t p : ℕ) (xs ys : List ℕ) → ps ≡ qs → t ≡ p → xs ≡ ys → T (same ps qs && eqb t p && same xs ys)
tests ps qs t p xs ys d e f =
    and_both (same ps qs && eqb t p) (same xs ys)
    (and_both (same ps qs) (eqb t p) (eq_same ps qs d) (rw (← e) (eqb_refl t)))
    (eq_same xs ys f)

pub codeword_conditions : (word : ℕ) → T (is_codeword word) → Codeword word
unfolding is_codeword
codeword_conditions word t =
    let c = conditions _ _ _ _ _ _ t in
    record { alike = c.0; top = c.1; hexacode = c.2 }

pub conditions_codeword : (word : ℕ) → Codeword word → T (is_codeword word)
unfolding is_codeword
conditions_codeword word c = tests _ _ _ _ _ _ c.alike c.top c.hexacode

-- twelve bits side by side are zero exactly if each piece is
pieces : (a b c d e f x y z : ℕ) → ℕ
pieces a b c d e f x y z = (((((((a * 2 + b) * 2 + c) * 2 + d) * 2 + e) * 2 + f) * 4 + x) * 4 + y) * 4 + z

record Zeros (a b c d e f x y z : ℕ) : Type 0 where
  a0 : a ≡ 0
  b0 : b ≡ 0
  c0 : c ≡ 0
  d0 : d ≡ 0
  e0 : e ≡ 0
  f0 : f ≡ 0
  x0 : x ≡ 0
  y0 : y ≡ 0
  z0 : z ≡ 0

pieces_zero : (a b c d e f x y z : ℕ) → pieces a b c d e f x y z ≡ 0 → Zeros a b c d e f x y z
unfolding pieces
pieces_zero a b c d e f x y z h = omega arith

zero_pieces : (a b c d e f x y z : ℕ) → Zeros a b c d e f x y z → pieces a b c d e f x y z ≡ 0
unfolding pieces
zero_pieces a b c d e f x y z h = omega arith

module _ (p1 p2 p3 p4 p5 p6 top a b c x4 x5 x6 : ℕ) where
  bits_zero :
      p1 ∷ p2 ∷ p3 ∷ p4 ∷ p5 ∷ p6 ∷ [] ≡ replicate 6 p1
      → top ≡ p1
      → a ∷ b ∷ c ∷ x4 ∷ x5 ∷ x6 ∷ [] ≡ hexacodeword a b c
      → syndrome_bits p1 p2 p3 p4 p5 p6 top a b c x4 x5 x6 ≡ 0
  unfolding pieces
  bits_zero d e f =
      zero_pieces _ _ _ _ _ _ _ _ _ (record {
        a0 = eq_xor_zero p2 p1 (cc);
        b0 = eq_xor_zero p3 p1 (cc);
        c0 = eq_xor_zero p4 p1 (cc);
        d0 = eq_xor_zero p5 p1 (cc);
        e0 = eq_xor_zero p6 p1 (cc);
        f0 = eq_xor_zero top p1 e;
        x0 = eq_xor_zero x4 (fourth a b c) (cc);
        y0 = eq_xor_zero x5 (fifth a b c) (cc);
        z0 = eq_xor_zero x6 (sixth a b c) (cc);
      })

  zero_bits :
      syndrome_bits p1 p2 p3 p4 p5 p6 top a b c x4 x5 x6 ≡ 0
      → (p1 ∷ p2 ∷ p3 ∷ p4 ∷ p5 ∷ p6 ∷ [] ≡ replicate 6 p1) × (top ≡ p1) × (a ∷ b ∷ c ∷ x4 ∷ x5 ∷ x6 ∷ [] ≡ hexacodeword a b c)
  unfolding pieces
  zero_bits h =
      let z = pieces_zero _ _ _ _ _ _ _ _ _ h in
      let q2 = xor_zero_eq p2 p1 z.a0 in
      let q3 = xor_zero_eq p3 p1 z.b0 in
      let q4 = xor_zero_eq p4 p1 z.c0 in
      let q5 = xor_zero_eq p5 p1 z.d0 in
      let q6 = xor_zero_eq p6 p1 z.e0 in
      let y4 = xor_zero_eq x4 (fourth a b c) z.x0 in
      let y5 = xor_zero_eq x5 (fifth a b c) z.y0 in
      let y6 = xor_zero_eq x6 (sixth a b c) z.z0 in
      ((cc), xor_zero_eq top p1 z.f0, (cc))

pub codeword_zero : (word : ℕ) → T (is_codeword word) → syndrome_of word ≡ 0
unfolding syndrome_of
codeword_zero word t =
    let c = codeword_conditions word t in
    bits_zero _ _ _ _ _ _ _ _ _ _ _ _ _ c.alike c.top c.hexacode

pub zero_codeword : (word : ℕ) → syndrome_of word ≡ 0 → T (is_codeword word)
unfolding syndrome_of
zero_codeword word h =
    let z = zero_bits _ _ _ _ _ _ _ _ _ _ _ _ _ h in
    conditions_codeword word (record { alike = z.0; top = z.1; hexacode = z.2 })

T-same : (a b : Bool) → (T a → T b) → (T b → T a) → a ≡ b
T-same true true f g = refl
T-same true false f g = absurd (f tt)
T-same false true f g = absurd (g tt)
T-same false false f g = refl

pub codeword_test : (word : ℕ) → is_codeword word ≡ eqb (syndrome_of word) 0
codeword_test word =
    T-same (is_codeword word) (eqb (syndrome_of word) 0)
    (λ t. rw (codeword_zero word t) tt)
    (λ t. zero_codeword word (eqb→eq (syndrome_of word) 0 t))
