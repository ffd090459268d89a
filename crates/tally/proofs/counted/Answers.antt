-- `tally::counted` meets its contract: the soft decoder's answer is the one that any decoder tells, and it is counted by what it is.
use Rattle.std.proofs.Common.{◌+◌, ap, ◌∙◌, get_or, set, nat_abs, w64, arith, rules}
use Rattle.std.proofs.lemmas.Int.{to_z-of_z}
use Rattle.std.proofs.lemmas.List.{set-get_or}
use Rattle.std.proofs.lemmas.Result.{err_from_is_err_and}
use Rattle.golay.specs.Refusals.{number}
use Rattle.golay.specs.Answers.{accepted, refused}
use Rattle.decoding.proofs.Decoding.{accepted-message}
use Rattle.totals.specs.Totals.{totals}
use Rattle.tally.proofs.Rules.{table_raised, table_unraised, table_same, counts_wrong, counts_answer}
use Rattle.tally.proofs.counted.Goals as goal

pub returns-then-counts-ne-TABLE : goal.returns-then-counts-ne-TABLE
returns-then-counts-ne-TABLE c =
    rw c.from.ensures (counts_wrong c.args.reading.now (totals c.args.t c.args.counts.now) c.if-counts-ne-TABLE.true)

-- an accepted message has its place
pub bounds-counts-values : goal.bounds-counts-values
bounds-counts-values c = let message = accepted-message c.args.reading.now c.in-Ok.values c.in-Ok.ensures in omega (arith, message)

pub returns-in_err-tally-in-Ok : goal.returns-in_err-tally-in-Ok
returns-in_err-tally-in-Ok c =
    let t = c.args.t in
    let s = c.in-Ok.values in
    let table = c.args.counts.now in
    let reserve = c.size.ensures ∙ ap nat_abs (to_z-of_z w64 s.reserve (search rules)) in
    let p = err_from_is_err_and c.from_residual.result c.from_residual.ensures.1 in
    rw (p.1, p.2, set-get_or)
    (counts_answer c.args.reading.now (accepted s) (totals t table) (totals t table) _ c.if-counts-ne-TABLE.false c.in-Ok.ensures
    (table_unraised t table (set table s.message.0 (get_or table s.message.0 0 + 1)) (rw reserve at c.in_err-tally-in-Ok.ensures)))

pub returns-in_ok-tally-in-Ok : goal.returns-in_ok-tally-in-Ok
returns-in_ok-tally-in-Ok c =
    let t = c.args.t in
    let s = c.in-Ok.values in
    let table = c.args.counts.now in
    let raised = set table s.message.0 (get_or table s.message.0 0 + 1) in
    let reserve = c.size.ensures ∙ ap nat_abs (to_z-of_z w64 s.reserve (search rules)) in
    counts_answer c.args.reading.now (accepted s) (totals t table) (totals c.in_ok-tally-in-Ok.tally raised) 0 c.if-counts-ne-TABLE.false c.in-Ok.ensures
    (table_raised t table raised (rw reserve at c.in_ok-tally-in-Ok.ensures))

pub returns-in-Err : goal.returns-in-Err
returns-in-Err c =
    counts_answer c.args.reading.now (refused (number c.in-Err.reason)) (totals c.args.t c.args.counts.now) _ _ c.if-counts-ne-TABLE.false c.in-Err.ensures
    (table_same c.args.t c.args.counts.now c.count_refused.result (rw c.from-in-Err.ensures at c.count_refused.ensures))
