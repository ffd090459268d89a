-- The pattern of a word's syndrome leads to a nearest codeword, so its ones are the least distance to any codeword; and words of one syndrome
-- that have fewer than 8 ones between them are one word, since two codewords stand at distance 8 or more (2.3).
-- Assumes nothing.
use mathlib.Core.Path.{◌≡◌, refl, sym, ap, ◌∙◌}
use Prim.Native.Nat.{ℕ, zero, suc, ◌+◌, ◌≤◌, ◌<◌}
use native.Mathlib.Omega.{arith}
use lib.Dec.{T}
use lib.Bits.{bit_xor, xor_zero_r, xor_self, xor_lt}
use Rattle.binary.specs.Words.{ones, distance}
use Rattle.binary.proofs.Xor.{xor_back, xor_zero_eq}
use Rattle.binary.proofs.Places.{ones-xor}
use Rattle.code.specs.Code.{words, is_codeword, syndrome_of}
use Rattle.code.proofs.Syndromes.{syndrome-add, codeword_zero, zero_codeword}
use Rattle.algebra.proofs.Distances.{codeword-ones}
use Rattle.patterns.specs.Patterns.{IsPattern}
use Rattle.patterns.specs.Nearest.{Nearest}

light_codeword : (c : ℕ) → c < words → T (is_codeword c) → ones 24 c < 8 → c ≡ 0
light_codeword zero h t l = refl
light_codeword (suc c) h t l =
    let e : ⊥ = omega (arith, codeword-ones (suc c) h t (λ z. omega arith)) in
    absurd e

pub same_word : (a b : ℕ) → a < words → b < words → syndrome_of a ≡ syndrome_of b → ones 24 a + ones 24 b < 8 → a ≡ b
same_word a b ha hb e l =
    xor_zero_eq a b
    (light_codeword (bit_xor a b) (xor_lt 24 a b ha hb)
    (zero_codeword (bit_xor a b) (syndrome-add a b ∙ ap (λ (s : ℕ). bit_xor s (syndrome_of b)) e ∙ xor_self (syndrome_of b)))
    (omega (arith, ones-xor 24 a b)))

-- a word of at most three ones is the pattern of its syndrome
pub pattern-itself : (e p : ℕ) → e < words → ones 24 e ≤ 3 → IsPattern (syndrome_of e) p → p ≡ e
pattern-itself e p h l r = same_word p e r.word h r.syndrome (omega (arith, r.fewest e h refl))

-- what a word and a codeword differ by has the word's syndrome
pub error_syndrome : (word c : ℕ) → T (is_codeword c) → syndrome_of (bit_xor word c) ≡ syndrome_of word
error_syndrome word c t = syndrome-add word c ∙ ap (bit_xor (syndrome_of word)) (codeword_zero c t) ∙ xor_zero_r (syndrome_of word)

-- and a word of that syndrome leads to a codeword
pub error_codeword : (word e : ℕ) → syndrome_of e ≡ syndrome_of word → T (is_codeword (bit_xor word e))
error_codeword word e z =
    zero_codeword (bit_xor word e) (syndrome-add word e ∙ ap (bit_xor (syndrome_of word)) z ∙ xor_self (syndrome_of word))

module _ (word p : ℕ) (h : word < words) (r : IsPattern (syndrome_of word) p) where
  -- Rule 5.4: the ones of the pattern are the least distance to any codeword
  pub pattern_nearest : Nearest word (bit_xor word p) (ones 24 p)
  pattern_nearest = record {
    short = xor_lt 24 word p h r.word;
    codeword = error_codeword word p r.syndrome;
    apart = ap (ones 24) (xor_back word p);
    least = λ c g t. r.fewest (bit_xor word c) (xor_lt 24 word c h g) (error_syndrome word c t);
  }

  pub only-within : (c : ℕ) → c < words → T (is_codeword c) → distance 24 word c + ones 24 p < 8 → c ≡ bit_xor word p
  only-within c g t l =
      sym (xor_back word c)
      ∙ ap (bit_xor word)
      (same_word (bit_xor word c) p (xor_lt 24 word c h g) r.word (error_syndrome word c t ∙ sym r.syndrome) l)

  -- Rule 5.5: at distance 0 to 3 no second codeword is as near
  pub only_nearest : ones 24 p ≤ 3 → (c : ℕ) → c < words → T (is_codeword c) → distance 24 word c ≡ ones 24 p → c ≡ bit_xor word p
  only_nearest l c g t e = only-within c g t (omega arith)
