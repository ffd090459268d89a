-- The promise decides: any two answers that it allows are equal, and so is what the slots hold. There is one pattern of a syndrome, and one
-- list of a word's candidates.
-- Assumes nothing.
use mathlib.Core.Path.{◌≡◌, refl, sym, ap, ◌∙◌, subst}
use mathlib.Core.List.{List}
use Prim.Native.Nat.{ℕ}
use Rattle.std.specs.Prelude.{Result}
use Rattle.golay.specs.declared.kinds.Refusal.{Refusal}
use Rattle.golay.specs.Answers.{Answer, accepted, refused}
use Rattle.golay.proofs.Decided.{answer-once}
use Rattle.patterns.proofs.Patterns.{pattern_unique}
use Rattle.candidates.specs.Answers.{candidates_answer}
use Rattle.candidates.specs.Candidates.{Candidates}
use Rattle.candidates.specs.Calls.{candidates_rule, SlotsHold, WritesCandidates}
use Rattle.candidates.proofs.Ascending.{ascending-same}

pub candidates-same : {word : ℕ} {xs ys : List ℕ} → Candidates word xs → Candidates word ys → xs ≡ ys
candidates-same {xs = xs} {ys = ys} p q =
    ascending-same xs ys p.ascending q.ascending (λ c m. q.every c (p.each c m)) (λ c m. p.every c (q.each c m))

held_same :
    (word : ℕ) (answer : Answer (Unit {0})) (before x y : List ℕ) → SlotsHold word answer before x → SlotsHold word answer before y → x ≡ y
held_same word (accepted t) before x y p q = candidates-same p q
held_same word (refused n) before x y p q = p ∙ sym q

module _ {word : ℕ} {before x y : List ℕ} {a b : Answer (Unit {0})} (p : WritesCandidates word before a x) (q : WritesCandidates word before b y) where
  pub candidates-once : a ≡ b
  candidates-once =
      p.answered ∙ ap (λ (e : ℕ). candidates_rule word e before) (pattern_unique p.rule q.rule) ∙ sym q.answered

  pub slots-once : x ≡ y
  slots-once =
      held_same word b before x y (subst (λ (r : Answer (Unit {0})). SlotsHold word r before x) candidates-once p.slots) q.slots

-- the call's own answer and what the slots hold afterwards
pub candidates-decided : (word : ℕ) (before : List ℕ) (x y : Result (Unit {0}) Refusal) (after later : List ℕ)
    → WritesCandidates word before (candidates_answer x) after → WritesCandidates word before (candidates_answer y) later
    → (x ≡ y) × (after ≡ later)
candidates-decided word before x y after later p q =
    (answer-once (λ nothing. nothing) (λ nothing. nothing) (λ nothing. refl) x y (candidates-once p q) refl, slots-once p q)
