-- What correction's refusal and the candidate call say at distance four, and what the two largest merits say of six candidates.
-- Assumes nothing.
use mathlib.Core.Path.{◌≡◌, refl, sym, ap, ◌∙◌, subst}
use mathlib.Core.Logic.{◌≢◌, ◌⊎◌, inl, inr}
use mathlib.Core.List.Memᴰ
use mathlib.Core.List.{List, [], ◌∷◌}
use Prim.Native.Nat.{ℕ, zero, suc, ◌≤◌, ◌<◌}
use native.Mathlib.Omega.{arith}
use native.Mathlib.Decide.{ℕ_discrete, dec_lt}
use lib.IntN.{ℤ, pos, neg_ℤ}
use lib.ListN.{length, get_or}
use lib.Signed.{◌≤ℤ◌, ◌<ℤ◌}
use Rattle.signed.proofs.Parts.{parts, le_parts, lt_parts}
use Rattle.binary.specs.Words.{ones}
use Rattle.contest.specs.Largest.{Best}
use Rattle.code.specs.Code.{words, syndrome_of}
use Rattle.std.specs.Prelude.{Result, Ok, Err}
use Rattle.std.specs.Result.{IsOk}
use Rattle.golay.specs.declared.kinds.Refusal.{Refusal}
use Rattle.golay.specs.Answers.{Answer, accepted, refused}
use Rattle.patterns.proofs.Patterns.{pattern_unique}
use Rattle.hard.specs.Calls.{Corrects}
use Rattle.hard.proofs.Rules.{correct_nearer}
use Rattle.candidates.specs.Candidates.{◌∈◌, Ascending, Candidate, Candidates, AtFour}
use Rattle.candidates.specs.Answers.{candidates_answer}
use Rattle.candidates.specs.Calls.{WritesCandidates, SlotsHold}
use Rattle.candidates.proofs.Rules.{candidates-four}
use Rattle.decision.specs.Decision.{cost_of, merits, Chosen, alone, shared}

-- ---- at distance four

-- a word that correction refuses is at distance four
pub refused-four : {word n : ℕ} → word < words → Corrects word (refused n) → AtFour word (syndrome_of word)
refused-four {word} h p = record { within = h; syndrome = refl; pattern = p.pattern; rule = p.rule; four = go (ℕ_discrete (ones 24 p.pattern) 4) }
  where
    go : Dec (ones 24 p.pattern ≡ 4) → ones 24 p.pattern ≡ 4
    go (yes e) = e
    go (no d) =
        let e = correct_nearer word p.pattern h d in
        absurd (cc (p.answered, e))

-- and there the candidate call is not refused, and writes its candidates
module _ {word : ℕ} {before after : List ℕ} (r : Result (Unit {0}) Refusal) (f : AtFour word (syndrome_of word)) (l : length before ≡ 6)
    (w : WritesCandidates word before (candidates_answer r) after) where
  four-accepted : candidates_answer r ≡ accepted tt
  four-accepted = w.answered ∙ candidates-four word w.pattern before l f.within (ap (ones 24) (pattern_unique w.rule f.rule) ∙ f.four)

  pub four-ok : IsOk r
  four-ok = go r four-accepted
    where
      go : (a : Result (Unit {0}) Refusal) → candidates_answer a ≡ accepted tt → IsOk a
      go (Ok t) e = refl
      go (Err reason) e = cc

  pub four-candidates : Candidates word after
  four-candidates = subst (λ (a : Answer (Unit {0})). SlotsHold word a before after) four-accepted w.slots

-- ---- places of a list

pub at_member : (cs : List ℕ) (k : ℕ) → k < length cs → get_or cs k 0 ∈ cs
at_member [] k h = let f : ⊥ = omega arith in absurd f
at_member (c ∷ cs) zero h = Memᴰ.head refl
at_member (c ∷ cs) (suc k) h = Memᴰ.tail (at_member cs k (omega arith))

-- where a member stands
record Place (cs : List ℕ) (d : ℕ) : Type 0 where
  at : ℕ
  below : at < length cs
  is : get_or cs at 0 ≡ d

place : (cs : List ℕ) (d : ℕ) → d ∈ cs → Place cs d
place [] d m = absurd (Memᴰ.not-nil m)
place (c ∷ cs) d m = go (Memᴰ.cases_cons m) (place cs d)
  where
    go : (d ≡ c) ⊎ (d ∈ cs) → (d ∈ cs → Place cs d) → Place (c ∷ cs) d
    go (inl e) deeper = record { at = 0; below = omega arith; is = sym e }
    go (inr n) deeper = let P = deeper n in record { at = suc P.at; below = omega (arith, P.below); is = P.is }

-- an ascending list rises from place to place, so no two places hold the same
rises : (cs : List ℕ) → Ascending cs → (j k : ℕ) → j < k → k < length cs → get_or cs j 0 < get_or cs k 0
rises [] a j k h l = let f : ⊥ = omega arith in absurd f
rises (c ∷ cs) a j zero h l = let f : ⊥ = omega arith in absurd f
rises (c ∷ cs) a zero (suc k) h l = a.0 (get_or cs k 0) (at_member cs k (omega arith))
rises (c ∷ cs) a (suc j) (suc k) h l = rises cs a.1 j k (omega arith) (omega arith)

apart : (cs : List ℕ) → Ascending cs → (j k : ℕ) → j < length cs → k < length cs → j ≢ k → get_or cs j 0 ≢ get_or cs k 0
apart cs a j k hj hk d e = go (dec_lt j k)
  where
    go : Dec (j < k) → ⊥
    go (yes l) = omega (arith, rises cs a j k l hk)
    go (no n) = let l : k < j = omega arith in omega (arith, rises cs a k j l hj)

-- ---- merits

merit_le : (x y : ℕ) → neg_ℤ (pos x) ≤ℤ neg_ℤ (pos y) → y ≤ x
merit_le x y h = omega (arith, simp parts at (le_parts h))

merit_lt : (x y : ℕ) → neg_ℤ (pos x) <ℤ neg_ℤ (pos y) → y < x
merit_lt x y h = omega (arith, simp parts at (lt_parts h))

module _ {word : ℕ} (xs : List ℤ) {slots : List ℕ} (C : Candidates word slots) {b s : ℤ} {m : ℕ} (B : Best (merits word xs slots) 0 6 b s m) where
  cost_at : ℕ → ℕ
  cost_at k = cost_of word xs (get_or slots k 0)

  long : (k : ℕ) → k < 6 → k < length slots
  long k h = omega (arith, C.six)

  each : (k : ℕ) → k < 6 → Candidate word (get_or slots k 0)
  each k h = C.each (get_or slots k 0) (at_member slots k (long k h))

  -- a candidate stands in one of the six places
  placed : (d : ℕ) → Candidate word d → Place slots d
  placed d K = place slots d (C.every d K)

  -- no candidate costs less than the one at m
  least : (d : ℕ) → Candidate word d → cost_at m ≤ cost_of word xs d
  unfolding cost_at
  least d K =
      let P = placed d K in
      let h = B.largest.most P.at (omega arith) (omega (arith, P.below, C.six)) in
      rw P.is at (merit_le (cost_of word xs (get_or slots P.at 0)) (cost_at m) h)

  -- the second is the cost at the runner
  leads : s <ℤ b → cost_at m < cost_at B.runner
  unfolding cost_at
  leads h = merit_lt (cost_at B.runner) (cost_at m) (rw (B.best, B.second) at h)

  ties : b ≤ℤ s → cost_at m ≡ cost_at B.runner
  unfolding cost_at
  ties h =
      omega
      (arith, merit_le (cost_at m) (cost_at B.runner) (rw (B.best, B.second) at h), least (get_or slots B.runner 0) (each B.runner B.next.below))

  -- and every candidate but that at m costs at least as much
  others : (d : ℕ) → Candidate word d → d ≢ get_or slots m 0 → cost_at B.runner ≤ cost_of word xs d
  unfolding cost_at
  others d K n =
      let P = placed d K in
      let q : P.at ≢ m = λ e. n (sym P.is ∙ ap (λ (k : ℕ). get_or slots k 0) e) in
      let h = B.next.most P.at (omega arith) (omega (arith, P.below, C.six)) q in
      rw P.is at (merit_le (cost_of word xs (get_or slots P.at 0)) (cost_at B.runner) h)

  pub chosen-alone : s <ℤ b → Chosen word xs (accepted (get_or slots m 0))
  unfolding cost_at
  chosen-alone h =
      alone (record { candidate = each m B.largest.below; cheaper = λ k K q. omega (arith, others k K q, leads h) })

  pub chosen-shared : b ≤ℤ s → Chosen word xs (refused 6)
  unfolding cost_at
  chosen-shared h =
      shared (record {
        one = get_or slots m 0;
        other = get_or slots B.runner 0;
        candidate = each m B.largest.below;
        candidate-other = each B.runner B.next.below;
        different = apart slots C.ascending m B.runner (long m B.largest.below) (long B.runner B.next.below) (λ q. B.next.other (sym q));
        equal = ties h;
        least = least;
      })
