-- What golay's syndrome of a word and the stored pattern of that say of the word; and what finding's answer says. Correction and the candidate
-- call both go by it.
-- Assumes nothing.
use mathlib.Core.Path.{◌≡◌, refl, sym, ap, ◌∙◌, subst, subst₂}
use mathlib.Core.Logic.{⊎_elim}
use Prim.Native.Nat.{ℕ, ◌%◌, ◌≤◌, ◌<◌}
use native.Mathlib.Nat.{mod-eq_of_lt}
use lib.ListN.{get_or}
use Rattle.binary.specs.Words.{ones}
use Rattle.binary.proofs.Places.{le_or_lt}
use Rattle.code.specs.Code.{words, syndromes, syndrome_of}
use Rattle.code.proofs.Syndromes.{syndrome_lt}
use Rattle.golay.specs.Answers.{accepted, refused}
use Rattle.golay.specs.Calls.{syndrome_rule}
use Rattle.golay.proofs.Rules.{syndrome_above, syndrome-within}
use Rattle.patterns.specs.Patterns.{IsPattern}
use Rattle.patterns.specs.Positions.{spread, fields, held, Stored}
use Rattle.patterns.proofs.Positions.{stored_ones}
use Rattle.table.proofs.Table.{table}
use Rattle.table.proofs.Entries.{table-pattern}
use Rattle.hard.specs.Answers.{Finding}
use Rattle.hard.specs.Calls.{Finds}
use Rattle.hard.proofs.Rules.{find_above, find-within}

pub record Within (word s : ℕ) : Type 0 where
  pub low : word < words
  pub syndrome : s ≡ syndrome_of word

pub record Above (word n : ℕ) : Type 0 where
  pub high : words ≤ word
  pub number : n ≡ 4

-- what golay's answer says of the word
module _ {word : ℕ} where
  pub syndrome-accepted : {s : ℕ} → accepted s ≡ syndrome_rule word → Within word s
  syndrome-accepted a =
      ⊎_elim
      (λ h. absurd (cc (a, syndrome_above word h)))
      (λ h. record { low = h; syndrome = cc (a, syndrome-within word h) })
      (le_or_lt words word)

  pub syndrome-refused : {n : ℕ} → refused n ≡ syndrome_rule word → Above word n
  syndrome-refused a =
      ⊎_elim
      (λ h. record { high = h; number = cc (a, syndrome_above word h) })
      (λ h. absurd (cc (a, syndrome-within word h)))
      (le_or_lt words word)

pub within_lt : {word s : ℕ} → Within word s → s < syndromes
within_lt {word} w = rw w.syndrome (syndrome_lt word)

-- the pattern of the word's syndrome, and its ones
pub record Found (word p n : ℕ) : Type 0 where
  pub low : word < words
  pub rule : IsPattern (syndrome_of word) p
  pub count : n ≡ ones 24 p

pub found : {word s e p n : ℕ} → Within word s → Stored (s % syndromes) e → p ≡ spread (fields 4 e) → n ≡ held 4 e → Found word p n
found {e = e} w r q c = record {
  low = w.low;
  rule = subst₂ IsPattern (mod-eq_of_lt (within_lt w) ∙ w.syndrome) (sym q) r.rule;
  count = c ∙ sym (stored_ones r) ∙ ap (ones 24) (sym q);
}

-- ---- what finding's answer says

module _ {word : ℕ} where
  pub finds_answer : {x : Finding} → Finds word (accepted x) → Found word x.pattern x.distance
  finds_answer {x} f =
      ⊎_elim
      (λ h. absurd (cc (f.answered, find_above word f.pattern h)))
      (λ h.
      let same : x ≡ record { pattern = f.pattern; distance = ones 24 f.pattern } = cc (f.answered, find-within word f.pattern h) in
      subst (λ (y : Finding). Found word y.pattern y.distance) (sym same) (record { low = h; rule = f.rule; count = refl }))
      (le_or_lt words word)

  pub finds_refusal : {n : ℕ} → Finds word (refused n) → Above word n
  finds_refusal f =
      ⊎_elim
      (λ h. record { high = h; number = cc (f.answered, find_above word f.pattern h) })
      (λ h. absurd (cc (f.answered, find-within word f.pattern h)))
      (le_or_lt words word)

-- any word's syndrome has a pattern, also where the word is above the range
module _ (word : ℕ) where
  pub pattern_for : ℕ
  pattern_for = get_or table (syndrome_of word) 0

  pub pattern_for_rule : IsPattern (syndrome_of word) pattern_for
  unfolding pattern_for
  pattern_for_rule = table-pattern (syndrome_of word) (syndrome_lt word)
