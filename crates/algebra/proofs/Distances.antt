-- Rule 2.3: the code is closed under exclusive or, and two codewords that are not the same stand at distance 8 or more, by a computed test of
-- the ones of all codewords but zero.
-- Assumes nothing.
use mathlib.Core.Path.{◌≡◌, refl, sym, ap₂, ◌∙◌, subst}
use mathlib.Core.Logic.{◌≢◌}
use mathlib.Core.Bool.{Bool, true, ◌&&◌}
use mathlib.Core.List.{List, [], ◌∷◌}
use Prim.Native.Nat.{ℕ, zero, suc, ◌*◌, ◌/◌, ◌%◌, ◌≤◌, ◌<◌}
use native.Mathlib.Nat.{zero-mul, one-mul}
use lib.Dec.{T, leb, leb→le}
use lib.Bits.{bit_xor, xor_lt, xor_comm, xor_zero_r}
use Rattle.binary.specs.Words.{ones, distance, row_sum}
use Rattle.binary.proofs.Tests.{and_left, and_right}
use Rattle.binary.proofs.Xor.{two_cases, bit_lt, xor_assoc, xor_zero_eq}
use Rattle.code.specs.Code.{words, is_codeword, message_of}
use Rattle.code.proofs.Syndromes.{syndrome-add, codeword_zero, zero_codeword}
use Rattle.code.proofs.Twelve.{codeword_rows}
use Rattle.algebra.proofs.Encoding.{codeword_rows_lem, message_lt, codeword-message}

pub codeword-xor : (a b : ℕ) → T (is_codeword a) → T (is_codeword b) → T (is_codeword (bit_xor a b))
codeword-xor a b s t = zero_codeword (bit_xor a b) (syndrome-add a b ∙ ap₂ bit_xor (codeword_zero a s) (codeword_zero b t))

-- the test f passes at the sum of w and any of the rows: a row is added once for all sums that it begins
abbrev sums : (ℕ → Bool) → List ℕ → ℕ → Bool
sums f [] w = f w
sums f (r ∷ rs) w = sums f rs w && sums f rs (bit_xor r w)

at_sum : (f : ℕ → Bool) (rs : List ℕ) (w : ℕ) → T (sums f rs w) → (m : ℕ) → T (f (bit_xor (row_sum rs m) w))
at_sum f [] w t m = t
at_sum f (r ∷ rs) w t m =
    let rest = row_sum rs (m / 2) in
    two_cases (λ bit. T (f (bit_xor (bit_xor (bit * r) rest) w)))
    (rw (zero-mul r) (at_sum f rs w (and_left (sums f rs w) (sums f rs (bit_xor r w)) t) (m / 2)))
    (rw (one-mul r, xor_comm r rest, xor_assoc rest r w) (at_sum f rs (bit_xor r w) (and_right (sums f rs w) (sums f rs (bit_xor r w)) t) (m / 2)))
    (m % 2) (bit_lt m)

heavy : ℕ → Bool
heavy zero = true
heavy (suc w) = leb 8 (ones 24 (suc w))

all_heavy : T (sums heavy codeword_rows 0)
unfolding heavy ones
all_heavy = tt

heavy_ones : (w : ℕ) → T (heavy w) → w ≢ 0 → 8 ≤ ones 24 w
unfolding heavy
heavy_ones zero t n = absurd (n refl)
heavy_ones (suc w) t n = leb→le 8 (ones 24 (suc w)) t

codeword-sum : (word : ℕ) → word < words → T (is_codeword word) → row_sum codeword_rows (message_of word) ≡ word
codeword-sum word h t = sym (codeword_rows_lem (message_of word) (message_lt word)) ∙ codeword-message word h t

-- a codeword that is not zero has at least 8 ones
pub codeword-ones : (word : ℕ) → word < words → T (is_codeword word) → word ≢ 0 → 8 ≤ ones 24 word
codeword-ones word h t n =
    let e = xor_zero_r (row_sum codeword_rows (message_of word)) ∙ codeword-sum word h t in
    heavy_ones word (subst (λ (x : ℕ). T (heavy x)) e (at_sum heavy codeword_rows 0 all_heavy (message_of word))) n

pub codeword-distance : (a b : ℕ) → a < words → b < words → T (is_codeword a) → T (is_codeword b) → a ≢ b → 8 ≤ distance 24 a b
codeword-distance a b ha hb s t n =
    codeword-ones (bit_xor a b) (xor_lt 24 a b ha hb) (codeword-xor a b s t) (λ e. n (xor_zero_eq a b e))
