-- Rules 18.1 to 18.3: a tally with its table; and what one more answer of the soft decoder makes of a tally.
use Rattle.std.specs.Prelude.{Bool, cond, ◌||◌, List, ℕ, ◌+◌, eqb, ltb, replicate, Result, Ok, Err}
use Rattle.code.specs.Code.{messages}
use Rattle.golay.specs.declared.kinds.Refusal.{Refusal}
use Rattle.golay.specs.declared.kinds.Refusal.TheVariants.{MostNegative, Tied, CountFull}
use Rattle.golay.specs.Refusals.{number}
use Rattle.golay.specs.Answers.{Answer, accepted, refused, refuse, answer_of}
use Rattle.totals.specs.declared.kinds.Tally.{Tally}

-- Rule 18.1: a tally and its table
pub record Totals : Type 0 where
  pub tally : Tally
  pub table : List ℕ

abbrev pub totals : Tally → List ℕ → Totals
totals t table = record { tally = t; table = table }

-- Rule 18.1: the empty tally and its table; 0 stands for no smallest reserve
abbrev pub empty : Totals
empty = totals (record { read = 0; accepted = 0; refused_2 = 0; refused_6 = 0; smallest = 0; total = 0 }) (replicate messages 0)

-- Rule 15.5: the answers by their values: of a count or a total, of a tally, and of what is refused with a number
abbrev pub count_answer : Result ℕ Refusal → Answer ℕ
count_answer r = answer_of (λ n. n) r

abbrev pub tally_answer : Result Tally Refusal → Answer Tally
tally_answer r = answer_of (λ t. t) r

abbrev pub numbered : {A : Type 0} → Result A ℕ → Answer A
numbered (Ok x) = accepted x
numbered (Err n) = refused n

-- Rule 18.3: whether a count, or a total, is past its end
abbrev pub count_past : ℕ → Bool
count_past n = ltb 4294967295 n

abbrev pub total_past : ℕ → Bool
total_past n = ltb 9223372036854775807 n

-- Rule 18.3: one more of a count, and a reserve more of a total, or 12
abbrev pub count_rule : ℕ → Answer ℕ
count_rule n = refuse CountFull (count_past (n + 1)) (accepted (n + 1))

abbrev pub total_rule : ℕ → ℕ → Answer ℕ
total_rule total ρ = refuse CountFull (total_past (total + ρ)) (accepted (total + ρ))

-- Rules 18.1 and 18.2: the smallest reserve, with one more; 0 stands for none
abbrev pub smallest_with : ℕ → ℕ → ℕ
smallest_with smallest ρ = cond (eqb smallest 0) ρ (cond (ltb ρ smallest) ρ smallest)

-- Rule 18.2: a reading counted that is accepted with the reserve ρ
abbrev pub with_accepted : Tally → ℕ → Tally
with_accepted t ρ = record {
  read = t.read + 1;
  accepted = t.accepted + 1;
  refused_2 = t.refused_2;
  refused_6 = t.refused_6;
  smallest = smallest_with t.smallest ρ;
  total = t.total + ρ;
}

-- Rule 18.2: a reading counted that is refused with 2, or with 6
abbrev pub with_most_negative : Tally → Tally
with_most_negative t = record {
  read = t.read + 1;
  accepted = t.accepted;
  refused_2 = t.refused_2 + 1;
  refused_6 = t.refused_6;
  smallest = t.smallest;
  total = t.total;
}

abbrev pub with_tied : Tally → Tally
with_tied t = record {
  read = t.read + 1;
  accepted = t.accepted;
  refused_2 = t.refused_2;
  refused_6 = t.refused_6 + 1;
  smallest = t.smallest;
  total = t.total;
}

-- Rule 18.3: whether something that goes up would pass its end, for an accepted reading, whose message has a count
abbrev pub accepted_full : Tally → ℕ → ℕ → Bool
accepted_full t count ρ = count_past (t.read + 1) || (count_past (t.accepted + 1) || (count_past (count + 1) || total_past (t.total + ρ)))

-- Rules 18.2 and 18.3: by the answer: 12, or the tally with the reading counted
abbrev pub accepted_rule : Tally → ℕ → ℕ → Answer Tally
accepted_rule t count ρ = refuse CountFull (accepted_full t count ρ) (accepted (with_accepted t ρ))

abbrev pub most_negative_rule : Tally → Answer Tally
most_negative_rule t = refuse CountFull (count_past (t.read + 1) || count_past (t.refused_2 + 1)) (accepted (with_most_negative t))

abbrev pub tied_rule : Tally → Answer Tally
tied_rule t = refuse CountFull (count_past (t.read + 1) || count_past (t.refused_6 + 1)) (accepted (with_tied t))

-- Rule 18.3: the soft decoder's other refusal is 1, of a reading of another length, and the count's own too
abbrev pub refused_rule : Tally → ℕ → Answer Tally
refused_rule t n = cond (eqb n (number MostNegative)) (most_negative_rule t) (cond (eqb n (number Tied)) (tied_rule t) (refused n))
