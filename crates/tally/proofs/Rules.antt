-- The count's rule, taken apart, and its promise where the table's length and the soft decoder's answer are known.
-- Assumes nothing.
use mathlib.Core.Path.{◌≡◌, sym, ap, ◌∙◌}
use mathlib.Core.List.{List}
use Prim.Native.Nat.{ℕ}
use lib.IntN.{ℤ}
use lib.ListN.{length}
use borrow.Author.Tests.{eq-eqb, ne_eqb}
use Rattle.code.specs.Code.{messages}
use Rattle.std.specs.Prelude.{Result, Ok, Err}
use Rattle.golay.specs.Answers.{Answer, accepted, refused}
use Rattle.soft.specs.declared.kinds.Soft.{Soft}
use Rattle.soft.specs.Calls.{SoftRule}
use Rattle.decoding.specs.Decoding.{message_and_reserve}
use Rattle.decoding.proofs.Decoding.{tells}
use Rattle.hands.specs.Hands.{HandsBack, itself}
use Rattle.hands.proofs.Hands.{hands_value, hands_refusal}
use Rattle.totals.specs.declared.kinds.Tally.{Tally}
use Rattle.totals.specs.Totals.{Totals, totals, numbered}
use Rattle.tally.specs.Counts.{with_table, answer_rule, count_rule, Counts, tally_after, status_of}

-- by the table's length
module _ (T : Totals) (answer : Answer (ℕ × ℕ)) where
  pub table_wrong : (length T.table ≡ messages → ⊥) → count_rule T answer ≡ refused 1
  unfolding count_rule
  table_wrong l = simp (ne_eqb (length T.table) messages l)

  pub table_right : length T.table ≡ messages → count_rule T answer ≡ answer_rule T answer
  unfolding count_rule
  table_right l = simp (eq-eqb (length T.table) messages l)

-- the tally's own promise, with the table: raised where the reading was counted, else as it was
module _ (t : Tally) (table : List ℕ) {a : Answer Tally} where
  pub table_raised : (raised : List ℕ) {u : Tally} → accepted u ≡ a → HandsBack (with_table raised a) itself (totals t table) (totals u raised) 0
  table_raised raised e = hands_value (ap (with_table raised) e)

  pub table_unraised : (raised : List ℕ) {n : ℕ} → refused n ≡ a → HandsBack (with_table raised a) itself (totals t table) (totals t table) n
  table_unraised raised e = hands_refusal (ap (with_table raised) e)

  pub table_same : (r : Result Tally ℕ) → numbered r ≡ a → HandsBack (with_table table a) itself (totals t table) (totals (tally_after t r) table) (status_of r)
  table_same (Ok u) e = table_raised table e
  table_same (Err n) e = table_unraised table e

-- the promise, by the table's length and an answer that the soft decoder's promise allows
pub counts_wrong : (xs : List ℤ) (T : Totals) → (length T.table ≡ messages → ⊥) → Counts xs T T 1
counts_wrong xs T l = record { handed = λ decode D. hands_refusal (sym (table_wrong T (decode xs) l)) }

pub counts_answer :
    (xs : List ℤ) (a : Answer Soft) (T U : Totals) (status : ℕ)
    → length T.table ≡ messages
    → SoftRule xs a
    → HandsBack (answer_rule T (message_and_reserve a)) itself T U status
    → Counts xs T U status
counts_answer xs a T U status l r h = record {
  handed = λ decode D.
      let e = table_right T (decode xs) l ∙ ap (answer_rule T) (tells decode D xs a r) in
      rw e h;
}
