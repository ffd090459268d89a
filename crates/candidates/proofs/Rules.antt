-- The candidate call's rule, taken apart: what it answers where its tests are known.
-- Assumes nothing.
use mathlib.Core.Path.{◌≡◌}
use mathlib.Core.List.{List}
use Prim.Native.Nat.{ℕ, ◌≤◌, ◌<◌}
use lib.ListN.{length}
use borrow.Author.Tests.{le-leb, lt-leb, eq-eqb, ne_eqb}
use Rattle.binary.specs.Words.{ones}
use Rattle.code.specs.Code.{words}
use Rattle.golay.specs.Answers.{accepted, refused}
use Rattle.candidates.specs.Calls.{candidates_rule}

module _ (word pattern : ℕ) (slots : List ℕ) where
  pub candidates-length : (length slots ≡ 6 → ⊥) → candidates_rule word pattern slots ≡ refused 1
  unfolding candidates_rule
  candidates-length l = simp (ne_eqb (length slots) 6 l)

  module _ (l : length slots ≡ 6) where
    pub candidates_above : words ≤ word → candidates_rule word pattern slots ≡ refused 4
    unfolding candidates_rule
    candidates_above h = simp (eq-eqb (length slots) 6 l, le-leb words word h)

    module _ (h : word < words) where
      pub candidates-other : (ones 24 pattern ≡ 4 → ⊥) → candidates_rule word pattern slots ≡ refused 8
      unfolding candidates_rule
      candidates-other o = simp (eq-eqb (length slots) 6 l, lt-leb words word h, ne_eqb (ones 24 pattern) 4 o)

      pub candidates-four : ones 24 pattern ≡ 4 → candidates_rule word pattern slots ≡ accepted tt
      unfolding candidates_rule
      candidates-four o = simp (eq-eqb (length slots) 6 l, lt-leb words word h, eq-eqb (ones 24 pattern) 4 o)
