-- Each call's rule, taken apart: what it answers where its tests are known.
-- Assumes nothing.
use mathlib.Core.Path.{◌≡◌}
use Prim.Native.Nat.{ℕ, ◌≤◌, ◌<◌}
use lib.Bits.{bit_xor}
use borrow.Author.Tests.{le-leb, lt-leb, eq-eqb, ne_eqb}
use Rattle.binary.specs.Words.{ones}
use Rattle.code.specs.Code.{words}
use Rattle.golay.specs.Answers.{accepted, refused}
use Rattle.hard.specs.Calls.{find_rule, apply_rule, correct_rule}

module _ (word pattern : ℕ) where
  pub find_above : words ≤ word → find_rule word pattern ≡ refused 4
  unfolding find_rule
  find_above h = simp (le-leb words word h)

  pub find-within : word < words → find_rule word pattern ≡ accepted (record { pattern = pattern; distance = ones 24 pattern })
  unfolding find_rule
  find-within h = simp (lt-leb words word h)

  pub apply-within : word < words → pattern < words → apply_rule word pattern ≡ accepted (bit_xor word pattern)
  unfolding apply_rule
  apply-within g h = simp (lt-leb words word g, lt-leb words pattern h)

  pub correct_above : words ≤ word → correct_rule word pattern ≡ refused 4
  unfolding correct_rule
  correct_above h = simp (le-leb words word h)

  module _ (h : word < words) where
    pub correct-four : ones 24 pattern ≡ 4 → correct_rule word pattern ≡ refused 7
    unfolding correct_rule
    correct-four o = simp (lt-leb words word h, eq-eqb (ones 24 pattern) 4 o)

    pub correct_nearer :
        (ones 24 pattern ≡ 4 → ⊥) → correct_rule word pattern ≡ accepted (record { codeword = bit_xor word pattern; distance = ones 24 pattern })
    unfolding correct_rule
    correct_nearer o = simp (lt-leb words word h, ne_eqb (ones 24 pattern) 4 o)
