-- Correction in two (rules 5.10 and 5.11), of every answer that the promises allow: finding answers every word and never refuses with 7; its
-- pattern, applied to the word, gives correction's codeword at distance 0 to 3, and at 4, where correction refuses, one of the nearest.
-- Assumes nothing.
use mathlib.Core.Path.{◌≡◌, sym, ap, ◌∙◌, subst}
use Prim.Native.Nat.{ℕ, ◌≤◌, ◌<◌}
use native.Mathlib.Omega.{arith}
use lib.Bits.{bit_xor}
use Rattle.binary.specs.Words.{ones}
use Rattle.code.specs.Code.{words}
use Rattle.code.proofs.Syndromes.{syndrome_lt}
use Rattle.golay.specs.Answers.{Answer, accepted, refused}
use Rattle.patterns.specs.Nearest.{Nearest}
use Rattle.patterns.proofs.Nearest.{pattern_nearest}
use Rattle.patterns.proofs.Patterns.{pattern_unique}
use Rattle.table.proofs.Entries.{pattern-ones}
use Rattle.hard.specs.Answers.{Finding, Correction}
use Rattle.hard.specs.Calls.{Finds, apply_rule, correct_rule, Corrects}
use Rattle.hard.proofs.Rules.{find-within, apply-within, correct-four, correct_nearer}
use Rattle.hard.proofs.Found.{Found, finds_answer, finds_refusal}

-- Rule 5.10: a word is refused where it is above the range, and with 4 alone
pub find_refuses_four : {word n : ℕ} → Finds word (refused n) → (n ≡ 4) × (words ≤ word)
find_refuses_four f = let a = finds_refusal f in (a.number, a.high)

pub find-answers : {word : ℕ} {answer : Answer Finding} → word < words → Finds word answer → (x : Finding) × (answer ≡ accepted x)
find-answers {word} h f = (record { pattern = f.pattern; distance = ones 24 f.pattern }, f.answered ∙ find-within word f.pattern h)

module _ {word : ℕ} {x : Finding} (f : Finds word (accepted x)) where
  abbrev is : Found word x.pattern x.distance
  is = finds_answer f

  -- Rule 5.10: the distance is 0 to 4
  pub find-distance : x.distance ≤ 4
  find-distance = rw is.count (pattern-ones (syndrome_lt word) is.rule)

  -- Rules 5.4 and 5.11: and that of the codeword that applying gives, than which none is nearer
  pub find_nearest : Nearest word (bit_xor word x.pattern) x.distance
  find_nearest = rw is.count (pattern_nearest word x.pattern is.low is.rule)

  module _ {a : Answer ℕ} {c : Answer Correction} (p : a ≡ apply_rule word x.pattern) (q : Corrects word c) where
    applied-word : a ≡ accepted (bit_xor word x.pattern)
    applied-word = p ∙ apply-within word x.pattern is.low is.rule.word

    same-rule : c ≡ correct_rule word x.pattern
    same-rule = q.answered ∙ ap (correct_rule word) (pattern_unique q.rule is.rule)

    -- Rule 5.11: at distance 0 to 3 both ways answer the same
    pub in_two : x.distance ≤ 3 → (w : ℕ) × ((a ≡ accepted w) × (c ≡ accepted (record { codeword = w; distance = x.distance })))
    in_two l = (
      bit_xor word x.pattern,
      (
        applied-word,
        same-rule ∙ rw is.count (correct_nearer word x.pattern is.low (λ e. omega (arith, is.count))),
      ),
    )

    -- Rule 5.11: at distance 4 correction refuses, and applying gives a codeword at that distance
    pub in_two_four : x.distance ≡ 4 → (w : ℕ) × ((a ≡ accepted w) × (Nearest word w 4 × (c ≡ refused 7)))
    in_two_four e = (
      bit_xor word x.pattern,
      (
        applied-word,
        (
          subst (Nearest word (bit_xor word x.pattern)) e find_nearest,
          same-rule ∙ correct-four word x.pattern is.low (sym is.count ∙ e),
        ),
      ),
    )
