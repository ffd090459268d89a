-- What finding and correction return, by what is found of the word, is what their promises say.
-- Assumes nothing.
use mathlib.Core.Path.{◌≡◌, sym, ap, ◌∙◌}
use Prim.Native.Nat.{ℕ, ◌<◌}
use lib.Bits.{bit_xor}
use Rattle.code.specs.Code.{words}
use Rattle.golay.specs.Answers.{accepted, refused}
use Rattle.golay.specs.Calls.{syndrome_rule}
use Rattle.hard.specs.Calls.{Finds, apply_rule, Corrects}
use Rattle.hard.proofs.Rules.{find_above, find-within, apply-within, correct_above, correct-four, correct_nearer}
use Rattle.hard.proofs.Found.{syndrome-refused, Above, Found, finds_refusal, pattern_for, pattern_for_rule}

pub finds_above : {word n : ℕ} → Above word n → Finds word (refused n)
finds_above {word} a = record {
  pattern = pattern_for word;
  rule = pattern_for_rule word;
  answered = ap refused a.number ∙ sym (find_above word (pattern_for word) a.high);
}

-- what golay refuses, finding refuses, and what finding refuses, correction
pub finds_refused : {word n : ℕ} → refused n ≡ syndrome_rule word → Finds word (refused n)
finds_refused rule = finds_above (syndrome-refused rule)

pub corrects_above : {word n : ℕ} → Above word n → Corrects word (refused n)
corrects_above {word} a = record {
  pattern = pattern_for word;
  rule = pattern_for_rule word;
  answered = ap refused a.number ∙ sym (correct_above word (pattern_for word) a.high);
}

pub corrects_refused : {word n : ℕ} → Finds word (refused n) → Corrects word (refused n)
corrects_refused f = corrects_above (finds_refusal f)

module _ {word p n : ℕ} (f : Found word p n) where
  pub finds_found : Finds word (accepted (record { pattern = p; distance = n }))
  finds_found = record {
    pattern = p;
    rule = f.rule;
    answered = rw f.count (sym (find-within word p f.low));
  }

  pub corrects-four : n ≡ 4 → Corrects word (refused 7)
  corrects-four e = record {
    pattern = p;
    rule = f.rule;
    answered = sym (correct-four word p f.low (sym f.count ∙ e));
  }

  pub corrects_nearer : (n ≡ 4 → ⊥) → Corrects word (accepted (record { codeword = bit_xor word p; distance = n }))
  corrects_nearer e = record {
    pattern = p;
    rule = f.rule;
    answered = rw f.count (sym (correct_nearer word p f.low (λ o. e (f.count ∙ o))));
  }

-- where both are words, applying is not refused
module _ {word p : ℕ} (h : word < words) (g : p < words) where
  pub applied : {v : ℕ} → accepted v ≡ apply_rule word p → v ≡ bit_xor word p
  applied rule = cc (rule, apply-within word p h g)

  pub not-refused : {n : ℕ} → refused n ≡ apply_rule word p → ⊥
  not-refused rule = cc (rule, apply-within word p h g)
