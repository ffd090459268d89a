-- By what stands where the walk has come to: a record is counted, or the run ends there or stops.
use Rattle.std.proofs.Common.{List, ℤ, ℕ, Result, Ok, Err, ◌≡◌, refl, ap, ◌∙◌, arith}
use Rattle.records.proofs.Standing.{whole_takes, takes_room}
use Rattle.std.specs.Result.{result_unwrap_or}
use Rattle.totals.specs.declared.kinds.Tally.{Tally}
use Rattle.totals.specs.Totals.{Totals, totals}
use Rattle.tally.specs.Counts.{Counts, tally_after}
use Rattle.contents.proofs.Walks.{place_is, walk-passed, passed-reading, passed-bytes, passed-last}
use Rattle.counting.proofs.Upto.{up_start, up_record, up_done}
use Rattle.counting.proofs.count_records.Goals as goal

pub loop-record-init : goal.loop-record-init
loop-record-init c = record {
  bytes = ap (λ b. b.now) c.new-walk.ensures.bytes;
  last = c.new-walk.ensures.last;
  upto = rw c.new-walk.ensures.start (up_start c.args.last c.args.bytes.now (totals c.args.t c.args.table.now));
}

pub loop-record-smaller : goal.loop-record-smaller
loop-record-smaller c =
    let I = c.loop-record.invariant in
    let stands = walk-passed c.loop-record.walk I.bytes I.last c.in-Some.ensures.steps.passes in
    let room = takes_room (whole_takes c.args.last c.args.bytes.now c.loop-record.walk.at stands) in
    omega (arith, room.0, room.1)

-- a count that is refused leaves the tally as it was
kept : (t : Tally) (r : Result Tally ℕ) → result_unwrap_or r t ≡ tally_after t r
kept t (Ok later) = refl
kept t (Err n) = refl

-- the same count, of an equal reading
of_reading : {xs ys : List ℤ} {before after : Totals} {status : ℕ} → xs ≡ ys → Counts xs before after status → Counts ys before after status
of_reading e C = rw e at C

pub loop-record-preserved : goal.loop-record-preserved
loop-record-preserved c =
    let I = c.loop-record.invariant in
    let P = c.in-Some.ensures.steps.passes in
    let reading = passed-reading c.loop-record.walk I.bytes I.last P in
    let after = c.unwrap_or-tally.ensures ∙ kept c.loop-record.tally c.counted.result in
    record {
      bytes = passed-bytes c.loop-record.walk I.bytes I.last P;
      last = passed-last c.loop-record.walk I.bytes I.last P;
      upto = rw after
          (up_record c.args.last c.args.bytes.now (totals c.args.t c.args.table.now) I.upto
          (walk-passed c.loop-record.walk I.bytes I.last P)
          (of_reading reading c.counted.ensures));
    }

pub returns : goal.returns
returns c =
    let I = c.loop-record.invariant in
    let stays = c.in_default.ensures.steps.same in
    let place = place_is c.loop-record.walk I.bytes I.last in
    rw stays
    (up_done c.args.last c.args.bytes.now (totals c.args.t c.args.table.now) I.upto c.stop.result
    (rw place at c.in_default.ensures.steps.none)
    (rw place at (rw stays at c.stop.ensures)))
