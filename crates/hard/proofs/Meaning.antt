-- What correction's answers say of the code, with no table: an accepted one is the only codeword at its distance and none is nearer; every word
-- that has a codeword within 3 is corrected to it; and at refusal 7 none is nearer than 4.
-- Assumes nothing.
use mathlib.Core.Path.{◌≡◌, sym, ap, ap₂, ◌∙◌, subst}
use mathlib.Core.Logic.{⊎_elim}
use Prim.Native.Nat.{ℕ, ◌≤◌, ◌<◌}
use native.Mathlib.Nat.{eq-or-lt_of_le}
use native.Mathlib.Omega.{arith}
use lib.Dec.{T}
use lib.Bits.{bit_xor}
use Rattle.binary.specs.Words.{ones, distance}
use Rattle.code.specs.Code.{words, is_codeword, syndrome_of}
use Rattle.code.proofs.Syndromes.{syndrome_lt}
use Rattle.golay.specs.Answers.{Answer, accepted, refused}
use Rattle.patterns.specs.Patterns.{IsPattern}
use Rattle.patterns.specs.Nearest.{Nearest}
use Rattle.binary.proofs.Places.{le_or_lt}
use Rattle.table.proofs.Entries.{pattern-ones}
use Rattle.patterns.proofs.Nearest.{pattern_nearest, only-within, only_nearest}
use Rattle.hard.specs.Answers.{Correction}
use Rattle.hard.specs.Calls.{correct_rule, Corrects}
use Rattle.hard.proofs.Rules.{correct_above, correct-four, correct_nearer}

abbrev pub correction : ℕ → ℕ → Correction
correction word p = record { codeword = bit_xor word p; distance = ones 24 p }

-- the three ways of a correction
data Way (word p : ℕ) : Type 0 where
  above : words ≤ word → correct_rule word p ≡ refused 4 → Way word p
  four : word < words → ones 24 p ≡ 4 → correct_rule word p ≡ refused 7 → Way word p
  nearer : word < words → ones 24 p ≤ 3 → correct_rule word p ≡ accepted (correction word p) → Way word p

way : (word p : ℕ) → IsPattern (syndrome_of word) p → Way word p
way word p r =
    ⊎_elim
    (λ h. above h (correct_above word p h))
    (λ h.
    ⊎_elim
    (λ o. four h o (correct-four word p h o))
    (λ o. nearer h (omega arith) (correct_nearer word p h (λ e. omega arith)))
    (eq-or-lt_of_le (pattern-ones (syndrome_lt word) r)))
    (le_or_lt words word)

-- an answer is no refusal
pub no_answer : {A : Type 0} {a : A} {n : ℕ} → ◌≡◌ {A = Answer A} (accepted a) (refused n) → ⊥
no_answer e = cc

-- Rule 5.5: what is answered is a nearest codeword and its distance, and no second codeword is as near
pub record Corrected (word : ℕ) (c : Correction) : Type 0 where
  pub within : word < words
  pub close : c.distance ≤ 3
  pub nearest : Nearest word c.codeword c.distance
  pub only : (other : ℕ) → other < words → T (is_codeword other) → distance 24 word other ≡ c.distance → other ≡ c.codeword

pub correct-accepted : {word : ℕ} {c : Correction} → Corrects word (accepted c) → Corrected word c
correct-accepted {word} {c} p = by (way word p.pattern p.rule)
  where
    by : Way word p.pattern → Corrected word c
    by (above h e) = absurd (no_answer (p.answered ∙ e))
    by (four h o e) = absurd (no_answer (p.answered ∙ e))
    by (nearer h o e) =
        let same : correction word p.pattern ≡ c = cc (p.answered, e) in
        subst (Corrected word) same
        (record {
          within = h;
          close = o;
          nearest = pattern_nearest word p.pattern h p.rule;
          only = only_nearest word p.pattern h p.rule o;
        })

-- Rule 5.5: a word with a codeword within 3 is corrected to it
pub correct-within :
    {word c : ℕ} {answer : Answer Correction}
    → word < words
    → c < words
    → T (is_codeword c)
    → distance 24 word c ≤ 3
    → Corrects word answer
    → answer ≡ accepted (record { codeword = c; distance = distance 24 word c })
correct-within {word} {c} {answer} h g t l p = by (way word p.pattern p.rule)
  where
    nearest : Nearest word (bit_xor word p.pattern) (ones 24 p.pattern)
    nearest = pattern_nearest word p.pattern h p.rule

    by : Way word p.pattern → answer ≡ accepted (record { codeword = c; distance = distance 24 word c })
    by (above k e) = let f : ⊥ = omega arith in absurd f
    by (four k o e) = let f : ⊥ = omega (arith, nearest.least c g t) in absurd f
    by (nearer k o e) =
        let only : c ≡ bit_xor word p.pattern = only-within word p.pattern h p.rule c g t (omega arith) in
        p.answered ∙ e
        ∙ sym (ap₂ (λ (x y : ℕ). accepted (record { codeword = x; distance = y })) only (ap (distance 24 word) only ∙ nearest.apart))

-- Rule 5.6: where the answer is 7, no codeword is nearer than 4
pub correct_seven : {word : ℕ} → Corrects word (refused 7) → (c : ℕ) → c < words → T (is_codeword c) → 4 ≤ distance 24 word c
correct_seven {word} p c g t = by (way word p.pattern p.rule)
  where
    by : Way word p.pattern → 4 ≤ distance 24 word c
    by (above h e) = absurd (cc (p.answered, e))
    by (four h o e) = subst (λ (x : ℕ). x ≤ distance 24 word c) o ((pattern_nearest word p.pattern h p.rule).least c g t)
    by (nearer h o e) = absurd (no_answer (sym (p.answered ∙ e)))
