-- Rule 18.4: the counts add up to what the history says, for any readings and every decoder.
-- Assumes nothing.
use mathlib.Core.Path.{◌≡◌, refl, sym, ap, ◌∙◌}
use mathlib.Core.Bool.{Bool, true, false, cond, ◌||◌}
use mathlib.Core.List.{List, [], ◌∷◌, ◌++◌, append_assoc, append-nil}
use Prim.Native.Nat.{ℕ, ◌+◌, ◌≤◌, ◌<◌}
use native.Mathlib.Omega.{arith}
use lib.Dec.{eqb}
use lib.IntN.{ℤ}
use lib.ListN.{length, get_or, set, length-set, length-append, length-replicate, get_or-replicate}
use lib.Seq.{get_or-set_same, get_or-set_other}
use borrow.Author.Tests.{eqb-true, eqb-false}
use Rattle.code.specs.Code.{messages}
use Rattle.golay.specs.declared.kinds.Refusal.TheVariants.{CountFull}
use Rattle.golay.specs.Answers.{Answer, accepted, refused, refuse}
use Rattle.decoding.specs.Decoding.{Decoder}
use Rattle.decoding.proofs.Decoding.{Possible, taken, wrong_length_lem, most-negative, tied, decoder_possible}
use Rattle.hands.specs.Hands.{output, itself}
use Rattle.totals.specs.declared.kinds.Tally.{Tally}
use Rattle.totals.specs.Totals.{Totals, totals, empty, count_past, with_accepted, with_most_negative, with_tied, accepted_full}
use Rattle.tally.specs.Counts.{with_table, answer_rule, count_rule}
use Rattle.tally.specs.History.{where_counted, tallied, counted_answers, is_accepted, is_accepted_for, is_refused_with, how_many, reserves, Among, AddsUp}
use Rattle.tally.proofs.Lists.{how_many_more, reserves_more, total_more, total-zeros, total_raised, smallest_more}
use Rattle.tally.proofs.Rules.{table_right}

-- the totals of some answers, with a table of its length
pub record Whole (answers : List (Answer (ℕ × ℕ))) (T : Totals) : Type 0 where
  pub adds : AddsUp answers T
  pub long : length T.table ≡ messages

pub empty-whole : Whole [] empty
unfolding how_many reserves Among
empty-whole = record {
  adds = record {
    read_is = refl;
    parts = refl;
    accepted-is = refl;
    refused_2_is = refl;
    refused_6_is = refl;
    each = λ m h. get_or-replicate messages m 0 0 h;
    all = sym (total-zeros messages);
    smallest-is = record { none = λ e. refl; zero_none = λ e. refl; among = λ n. absurd (n refl); least = λ ρ a. absurd a };
    total-is = refl;
  };
  long = length-replicate {A = ℕ} messages 0;
}

module _ (answers : List (Answer (ℕ × ℕ))) (T : Totals) (W : Whole answers T) where
  A : AddsUp answers T
  A = W.adds

  long_more : (a : Answer (ℕ × ℕ)) → length (answers ++ (a ∷ [])) ≡ length answers + 1
  long_more a = length-append answers (a ∷ [])

  -- an answer without a reserve
  no_reserve : (n : ℕ) → reserves (answers ++ (refused n ∷ [])) ≡ reserves answers
  no_reserve n = reserves_more answers (refused n) ∙ append-nil (reserves answers)

  module _ (m ρ : ℕ) (known : m < messages) (positive : 1 ≤ ρ) where
    abbrev a : Answer (ℕ × ℕ)
    a = accepted (m, ρ)

    -- each message's count, by whether it is this one
    each_more : (k : ℕ) → k < messages → (b : Bool) → eqb m k ≡ b
        → get_or (set T.table m (get_or T.table m 0 + 1)) k 0 ≡ how_many (is_accepted_for k) answers + cond b 1 0
    each_more k h true e =
        let s = eqb-true m k e in
        ap (λ (j : ℕ). get_or (set T.table m (get_or T.table m 0 + 1)) j 0) (sym s)
        ∙ get_or-set_same T.table m (get_or T.table m 0 + 1) 0 (omega (arith, W.long))
        ∙ ap (λ (n : ℕ). n + 1) (A.each m known)
        ∙ ap (λ (j : ℕ). how_many (is_accepted_for j) answers + 1) s
    each_more k h false e =
        get_or-set_other T.table m k (get_or T.table m 0 + 1) 0 (λ s. eqb-false m k e (sym s))
        ∙ A.each k h
        ∙ (omega arith)

    accepted-whole : Whole (answers ++ (a ∷ [])) (totals (with_accepted T.tally ρ) (set T.table m (get_or T.table m 0 + 1)))
    accepted-whole = record {
      adds = record {
        read_is = omega (arith, A.read_is, long_more a);
        parts = omega (arith, A.parts);
        accepted-is = omega (arith, A.accepted-is, how_many_more is_accepted answers a);
        refused_2_is = omega (arith, A.refused_2_is, how_many_more (is_refused_with 2) answers a);
        refused_6_is = omega (arith, A.refused_6_is, how_many_more (is_refused_with 6) answers a);
        each = λ k h. each_more k h (eqb m k) refl ∙ sym (how_many_more (is_accepted_for k) answers a);
        all = omega (arith, A.all, total_raised T.table m (omega (arith, W.long)));
        smallest-is = rw (reserves_more answers a) (smallest_more T.tally.smallest ρ (reserves answers) positive A.smallest-is);
        total-is = rw (reserves_more answers a) (omega (arith, A.total-is, total_more (reserves answers) ρ));
      };
      long = length-set T.table m (get_or T.table m 0 + 1) ∙ W.long;
    }

  each_same : (n k : ℕ) → k < messages → get_or T.table k 0 ≡ how_many (is_accepted_for k) (answers ++ (refused n ∷ []))
  each_same n k h = let e = how_many_more (is_accepted_for k) answers (refused n) in omega (arith, A.each k h, e)

  most-negative-whole : Whole (answers ++ (refused 2 ∷ [])) (totals (with_most_negative T.tally) T.table)
  most-negative-whole = record {
    adds = record {
      read_is = omega (arith, A.read_is, long_more (refused 2));
      parts = omega (arith, A.parts);
      accepted-is = omega (arith, A.accepted-is, how_many_more is_accepted answers (refused 2));
      refused_2_is = omega (arith, A.refused_2_is, how_many_more (is_refused_with 2) answers (refused 2));
      refused_6_is = omega (arith, A.refused_6_is, how_many_more (is_refused_with 6) answers (refused 2));
      each = each_same 2;
      all = A.all;
      smallest-is = rw (no_reserve 2) A.smallest-is;
      total-is = rw (no_reserve 2) A.total-is;
    };
    long = W.long;
  }

  tied-whole : Whole (answers ++ (refused 6 ∷ [])) (totals (with_tied T.tally) T.table)
  tied-whole = record {
    adds = record {
      read_is = omega (arith, A.read_is, long_more (refused 6));
      parts = omega (arith, A.parts);
      accepted-is = omega (arith, A.accepted-is, how_many_more is_accepted answers (refused 6));
      refused_2_is = omega (arith, A.refused_2_is, how_many_more (is_refused_with 2) answers (refused 6));
      refused_6_is = omega (arith, A.refused_6_is, how_many_more (is_refused_with 6) answers (refused 6));
      each = each_same 6;
      all = A.all;
      smallest-is = rw (no_reserve 6) A.smallest-is;
      total-is = rw (no_reserve 6) A.total-is;
    };
    long = W.long;
  }

  -- a reading that is not counted
  left_whole : Whole (answers ++ []) T
  left_whole = rw (append-nil answers) W

  -- one that is, unless something is full
  unless_full : (u : Tally) (table : List ℕ) (a : Answer (ℕ × ℕ)) (full : Bool)
      → Whole (answers ++ (a ∷ [])) (totals u table)
      → let r = with_table table (refuse CountFull full (accepted u)) in
      Whole (answers ++ where_counted r a) (output itself r T)
  unless_full u table a true more = left_whole
  unless_full u table a false more = more

  answer-whole : (a : Answer (ℕ × ℕ)) → Possible a → Whole (answers ++ where_counted (answer_rule T a) a) (output itself (answer_rule T a) T)
  answer-whole a (taken m ρ known positive) =
      let count = get_or T.table m 0 in
      unless_full (with_accepted T.tally ρ) (set T.table m (count + 1)) (accepted (m, ρ)) (accepted_full T.tally count ρ)
      (accepted-whole m ρ known positive)
  answer-whole a wrong_length_lem = left_whole
  answer-whole a most-negative =
      unless_full (with_most_negative T.tally) T.table (refused 2) (count_past (T.tally.read + 1) || count_past (T.tally.refused_2 + 1))
      most-negative-whole
  answer-whole a tied =
      unless_full (with_tied T.tally) T.table (refused 6) (count_past (T.tally.read + 1) || count_past (T.tally.refused_6 + 1)) tied-whole

  pub count-whole : (a : Answer (ℕ × ℕ)) → Possible a → Whole (answers ++ where_counted (count_rule T a) a) (output itself (count_rule T a) T)
  count-whole a p = rw (table_right T a W.long) (answer-whole a p)

module _ (decode : List ℤ → Answer (ℕ × ℕ)) (D : Decoder decode) where
  tallied-whole :
      (answers : List (Answer (ℕ × ℕ))) (T : Totals)
      → Whole answers T
      → (readings : List (List ℤ))
      → Whole (answers ++ counted_answers decode T readings) (tallied decode T readings)
  unfolding tallied counted_answers
  tallied-whole answers T W [] = left_whole answers T W
  tallied-whole answers T W (xs ∷ later) =
      let r = count_rule T (decode xs) in
      rw
      (sym (append_assoc answers (where_counted r (decode xs)) (counted_answers decode (output itself r T) later)))
      (tallied-whole (answers ++ where_counted r (decode xs)) (output itself r T) (count-whole answers T W (decode xs) (decoder_possible decode D xs)) later)

  -- the counts add up to what the history says
  pub counts_add_up : (readings : List (List ℤ)) → AddsUp (counted_answers decode empty readings) (tallied decode empty readings)
  counts_add_up readings = (tallied-whole [] empty empty-whole readings).adds
