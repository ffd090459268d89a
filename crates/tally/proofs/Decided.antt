-- Two outcomes that the promise of the count allows are equal: what it returns, and what it leaves; and it returns 0, 1 or 12. Of a count by
-- value that is the result itself: one that goes raises the readings by one, and no refusal has the number 0.
-- Assumes nothing.
use mathlib.Core.Path.{◌≡◌, refl, sym, ap}
use mathlib.Core.Logic.{◌⊎◌, inl, inr}
use mathlib.Core.Bool.{Bool, true, false, ◌||◌}
use mathlib.Core.List.{List}
use Prim.Native.Nat.{ℕ, ◌+◌}
use native.Mathlib.Omega.{arith}
use lib.IntN.{ℤ}
use lib.ListN.{get_or, set}
use Rattle.code.specs.Code.{messages}
use Rattle.golay.specs.declared.kinds.Refusal.TheVariants.{WrongLength, CountFull}
use Rattle.std.specs.Prelude.{Result, Ok, Err}
use Rattle.golay.specs.Answers.{Answer, accepted, refused, refuse}
use Rattle.golay.specs.Calls.{wrong_length}
use Rattle.decoding.proofs.Decoding.{a_decoder, Possible, taken, wrong_length_lem, most-negative, tied, decoder_possible}
use Rattle.hands.specs.Hands.{returned, HandsBack, itself}
use Rattle.hands.proofs.Hands.{hands_decided}
use Rattle.totals.specs.declared.kinds.Tally.{Tally}
use Rattle.totals.specs.Totals.{Totals, totals, count_past, with_accepted, with_most_negative, with_tied, accepted_full}
use Rattle.tally.specs.Counts.{with_table, answer_rule, count_rule, Counts, tally_after, status_of}

pub count-decided :
    {xs : List ℤ} {before after later : Totals} {status other : ℕ}
    → Counts xs before after status
    → Counts xs before later other
    → (status ≡ other) × (after ≡ later)
count-decided p q = let (decode, D) = a_decoder in hands_decided (p.handed decode D) (q.handed decode D)

-- counted, or refused with 1 or 12
abbrev pub Own : ℕ → Type 0
Own n = (n ≡ 0) ⊎ (n ≡ 1) ⊎ (n ≡ 12)

full_own : (u : Tally) (table : List ℕ) (full : Bool) → Own (returned (with_table table (refuse CountFull full (accepted u))))
full_own u table true = inr (inr refl)
full_own u table false = inl refl

answer_own : (T : Totals) (a : Answer (ℕ × ℕ)) → Possible a → Own (returned (answer_rule T a))
answer_own T a (taken m ρ known positive) =
    let count = get_or T.table m 0 in
    full_own (with_accepted T.tally ρ) (set T.table m (count + 1)) (accepted_full T.tally count ρ)
answer_own T a wrong_length_lem = inr (inl refl)
answer_own T a most-negative =
    full_own (with_most_negative T.tally) T.table (count_past (T.tally.read + 1) || count_past (T.tally.refused_2 + 1))
answer_own T a tied = full_own (with_tied T.tally) T.table (count_past (T.tally.read + 1) || count_past (T.tally.refused_6 + 1))

rule_own : (T : Totals) (a : Answer (ℕ × ℕ)) → Possible a → Own (returned (count_rule T a))
unfolding count_rule
rule_own T a p = go (wrong_length messages T.table)
  where
    go : (w : Bool) → Own (returned (refuse WrongLength w (answer_rule T a)))
    go true = inr (inl refl)
    go false = answer_own T a p

pub count_own : {xs : List ℤ} {before after : Totals} {status : ℕ} → Counts xs before after status → Own status
count_own {xs} {before} C =
    let (decode, D) = a_decoder in
    rw (C.handed decode D).status_is (rule_own before (decode xs) (decoder_possible decode D xs))

-- ---- a count by value

-- what a count makes of the readings, where it goes; else its number is above 0
abbrev Moves : ℕ → Answer Totals → Type 0
Moves read (accepted T) = T.tally.read ≡ read + 1
Moves read (refused n) = n ≡ 0 → ⊥

full_moves : (read : ℕ) (u : Tally) (table : List ℕ) (full : Bool) → u.read ≡ read + 1 → Moves read (with_table table (refuse CountFull full (accepted u)))
full_moves read u table true e = λ z. absurd (omega (arith, z))
full_moves read u table false e = e

answer_moves : (T : Totals) (a : Answer (ℕ × ℕ)) → Possible a → Moves T.tally.read (answer_rule T a)
answer_moves T a (taken m ρ known positive) =
    let count = get_or T.table m 0 in
    full_moves T.tally.read (with_accepted T.tally ρ) (set T.table m (count + 1)) (accepted_full T.tally count ρ) refl
answer_moves T a wrong_length_lem = λ z. absurd (omega (arith, z))
answer_moves T a most-negative =
    full_moves T.tally.read (with_most_negative T.tally) T.table (count_past (T.tally.read + 1) || count_past (T.tally.refused_2 + 1)) refl
answer_moves T a tied =
    full_moves T.tally.read (with_tied T.tally) T.table (count_past (T.tally.read + 1) || count_past (T.tally.refused_6 + 1)) refl

rule_moves : (T : Totals) (a : Answer (ℕ × ℕ)) → Possible a → Moves T.tally.read (count_rule T a)
unfolding count_rule
rule_moves T a p = go (wrong_length messages T.table)
  where
    go : (w : Bool) → Moves T.tally.read (refuse WrongLength w (answer_rule T a))
    go true = λ z. absurd (omega (arith, z))
    go false = answer_moves T a p

module _ {xs : List ℤ} (t : Tally) (before : List ℕ) where
  -- a tally that stands is that of no count that goes
  never_stands : {later : List ℕ} {P : Type 0} → Counts xs (totals t before) (totals t later) 0 → P
  never_stands {later} {P} C =
      let (decode, D) = a_decoder in
      go (count_rule (totals t before) (decode xs)) (rule_moves (totals t before) (decode xs) (decoder_possible decode D xs)) (C.handed decode D)
    where
      go : (a : Answer Totals) → Moves t.read a → HandsBack a itself (totals t before) (totals t later) 0 → P
      go (accepted U) e h = let f = ap (λ (T : Totals). T.tally.read) h.output-is in absurd (omega (arith, e, f))
      go (refused n) e h = absurd (e (sym h.status_is))

  pub counted-decided :
      {after later : List ℕ} (x y : Result Tally ℕ)
      → Counts xs (totals t before) (totals (tally_after t x) after) (status_of x)
      → Counts xs (totals t before) (totals (tally_after t y) later) (status_of y)
      → (x ≡ y) × (after ≡ later)
  counted-decided {after} {later} x y p q = let (s, e) = count-decided p q in (go x y p q s e, ap (λ (T : Totals). T.table) e)
    where
      go : (x y : Result Tally ℕ)
          → Counts xs (totals t before) (totals (tally_after t x) after) (status_of x)
          → Counts xs (totals t before) (totals (tally_after t y) later) (status_of y)
          → status_of x ≡ status_of y
          → totals (tally_after t x) after ≡ totals (tally_after t y) later
          → x ≡ y
      go (Ok u) (Ok v) p q s e = ap Ok (ap (λ (T : Totals). T.tally) e)
      go (Ok u) (Err n) p q s e = never_stands (rw (← s) at q)
      go (Err n) (Ok v) p q s e = never_stands (rw s at p)
      go (Err n) (Err k) p q s e = ap Err s
