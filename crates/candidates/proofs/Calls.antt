-- What the candidate call returns and leaves in the slots, by what is found of the word, is what its promise says.
-- Assumes nothing.
use mathlib.Core.Path.{◌≡◌, refl, sym, ap, ◌∙◌, subst}
use mathlib.Core.List.{List}
use Prim.Native.Nat.{ℕ, ◌%◌}
use native.Mathlib.Nat.{mod-eq_of_lt}
use lib.ListN.{length}
use Rattle.code.specs.Code.{words, syndrome_of}
use Rattle.golay.specs.Answers.{accepted, refused}
use Rattle.patterns.specs.Patterns.{IsPattern}
use Rattle.hard.specs.Calls.{Finds}
use Rattle.hard.proofs.Found.{Above, Found, finds_refusal, pattern_for, pattern_for_rule}
use Rattle.candidates.specs.Candidates.{Candidates, AtFour}
use Rattle.candidates.specs.Calls.{WritesCandidates}
use Rattle.candidates.proofs.Rules.{candidates-length, candidates_above, candidates-other, candidates-four}

pub at-four : {word s p n : ℕ} → Found word p n → s ≡ syndrome_of (word % words) → n ≡ 4 → AtFour word s
at-four {word} {p = p} f e four =
    let same = e ∙ ap syndrome_of (mod-eq_of_lt f.low) in
    record {
      within = f.low;
      syndrome = same;
      pattern = p;
      rule = subst (λ (x : ℕ). IsPattern x p) (sym same) f.rule;
      four = sym f.count ∙ four;
    }

pub writes-length : (word : ℕ) (slots : List ℕ) → (length slots ≡ 6 → ⊥) → WritesCandidates word slots (refused 1) slots
writes-length word slots l = record {
  pattern = pattern_for word;
  rule = pattern_for_rule word;
  answered = sym (candidates-length word (pattern_for word) slots l);
  slots = refl;
}

module _ (slots : List ℕ) (l : length slots ≡ 6) where
  pub writes_above : {word n : ℕ} → Above word n → WritesCandidates word slots (refused n) slots
  writes_above {word} a = record {
    pattern = pattern_for word;
    rule = pattern_for_rule word;
    answered = ap refused a.number ∙ sym (candidates_above word (pattern_for word) slots l a.high);
    slots = refl;
  }

  pub writes_refused : {word n : ℕ} → Finds word (refused n) → WritesCandidates word slots (refused n) slots
  writes_refused f = writes_above (finds_refusal f)

  module _ {word p n : ℕ} (f : Found word p n) where
    pub writes-other : (n ≡ 4 → ⊥) → WritesCandidates word slots (refused 8) slots
    writes-other e = record {
      pattern = p;
      rule = f.rule;
      answered = sym (candidates-other word p slots l f.low (λ o. e (f.count ∙ o)));
      slots = refl;
    }

    pub writes-four : n ≡ 4 → {after : List ℕ} → Candidates word after → WritesCandidates word slots (accepted tt) after
    writes-four e k = record {
      pattern = p;
      rule = f.rule;
      answered = sym (candidates-four word p slots l f.low (sym f.count ∙ e));
      slots = k;
    }
