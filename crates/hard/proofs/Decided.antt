-- Each promise decides: any two answers that it allows are equal, for there is one pattern of a syndrome.
-- Assumes nothing.
use mathlib.Core.Path.{◌≡◌, refl, sym, ap, ◌∙◌}
use Prim.Native.Nat.{ℕ}
use Rattle.std.specs.Prelude.{Result}
use Rattle.golay.specs.declared.kinds.Refusal.{Refusal}
use Rattle.golay.specs.Answers.{Answer}
use Rattle.golay.proofs.Decided.{answer-once}
use Rattle.patterns.proofs.Patterns.{pattern_unique}
use Rattle.hard.specs.declared.kinds.Found.{Found}
use Rattle.hard.specs.declared.kinds.Corrected.{Corrected}
use Rattle.hard.specs.Answers.{Finding, find_answer, apply_answer, Correction, correct_answer}
use Rattle.hard.specs.Calls.{find_rule, Finds, apply_rule, correct_rule, Corrects}

pub find-once : (word : ℕ) (a b : Answer Finding) → Finds word a → Finds word b → a ≡ b
find-once word a b p q = p.answered ∙ ap (find_rule word) (pattern_unique p.rule q.rule) ∙ sym q.answered

pub correct-once : (word : ℕ) (a b : Answer Correction) → Corrects word a → Corrects word b → a ≡ b
correct-once word a b p q = p.answered ∙ ap (correct_rule word) (pattern_unique p.rule q.rule) ∙ sym q.answered

-- ---- of the calls' own answers

pub find-decided : (word : ℕ) (x y : Result Found Refusal) → Finds word (find_answer x) → Finds word (find_answer y) → x ≡ y
find-decided word x y p q =
    answer-once (λ found. record { pattern = found.pattern.0; distance = found.distance })
    (λ (v : Finding). record { pattern = record { 0 = v.pattern }; distance = v.distance })
    (λ found. refl) x y (find-once word (find_answer x) (find_answer y) p q) refl

pub apply-decided :
    (word pattern : ℕ) (x y : Result ℕ Refusal) → apply_answer x ≡ apply_rule word pattern → apply_answer y ≡ apply_rule word pattern → x ≡ y
apply-decided word pattern = answer-once (λ n. n) (λ n. n) (λ n. refl)

pub correct-decided : (word : ℕ) (x y : Result Corrected Refusal) → Corrects word (correct_answer x) → Corrects word (correct_answer y) → x ≡ y
correct-decided word x y p q =
    answer-once (λ c. record { codeword = c.codeword.0; distance = c.distance })
    (λ (v : Correction). record { codeword = record { 0 = v.codeword }; distance = v.distance })
    (λ c. refl) x y (correct-once word (correct_answer x) (correct_answer y) p q) refl
