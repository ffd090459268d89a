-- Rules 18.1 to 18.3: a tally with its table, and what counting a reading makes of them.
use Rattle.std.specs.Prelude.{List, ℕ, ◌+◌, ℤ, get_or, set, Result}
use Rattle.code.specs.Code.{messages}
use Rattle.golay.specs.declared.kinds.Refusal.TheVariants.{WrongLength}
use Rattle.golay.specs.Answers.{Answer, accepted, refused, refuse}
use Rattle.golay.specs.Calls.{wrong_length}
use Rattle.decoding.specs.Decoding.{Decoder}
use Rattle.hands.specs.Hands.{returned, output, HandsBack, itself}
use Rattle.totals.specs.declared.kinds.Tally.{Tally}
use Rattle.totals.specs.Totals.{Totals, totals, numbered, accepted_rule, refused_rule}

-- the totals that a tally and a table make, unless the count is refused
abbrev pub with_table : List ℕ → Answer Tally → Answer Totals
with_table table (accepted t) = accepted (totals t table)
with_table table (refused n) = refused n

-- Rule 18.2: by the soft decoder's answer; the count of an accepted message goes up
abbrev pub answer_rule : Totals → Answer (ℕ × ℕ) → Answer Totals
answer_rule T (accepted x) =
    let count = get_or T.table x.0 0 in
    with_table (set T.table x.0 (count + 1)) (accepted_rule T.tally count x.1)
answer_rule T (refused n) = with_table T.table (refused_rule T.tally n)

-- Rule 11.3, count: 1, of table and reading, then 12, or the totals moved
unfoldable pub count_rule : Totals → Answer (ℕ × ℕ) → Answer Totals
count_rule T answer = refuse WrongLength (wrong_length messages T.table) (answer_rule T answer)

-- Rules 11.5, 11.7, 18.2 and 18.3: what counting a reading returns, and what it leaves, for every decoder
pub record Counts (xs : List ℤ) (before after : Totals) (status : ℕ) : Type 0 where
  pub handed : (decode : List ℤ → Answer (ℕ × ℕ)) → Decoder decode → HandsBack (count_rule before (decode xs)) itself before after status

-- of a count by value: the tally after it, which a refusal leaves as it was, and what is returned for it
abbrev pub tally_after : Tally → Result Tally ℕ → Tally
tally_after t r = output itself (numbered r) t

abbrev pub status_of : Result Tally ℕ → ℕ
status_of r = returned (numbered r)
