-- By what stands where the walk has come to, the run goes on, ends or stops.
use Rattle.std.proofs.Common.{true, false, List, ℕ, ◌≡◌, ◌+◌, ◌<◌, ◌^◌, sym, ap, ◌∙◌, arith, rules}
use Rattle.sequence.specs.Sequence.{follows_from, previous_after}
use Rattle.texts.specs.Buffers.{Writes}
use Rattle.lines.specs.Lines.{stopped_line}
use Rattle.records.specs.Records.{stopped}
use Rattle.records.proofs.Standing.{whole_takes, takes_room}
use Rattle.contents.proofs.Walks.{walk-ended, walk-stopped, walk-passed, passed-number, passed-reading, passed-bytes, passed-last}
use Rattle.run.proofs.Upto.{up_start, up_record, up_ended, up_stopped}
use Rattle.run.proofs.run_through.Goals.{in-Some-stop, in_default-stop}
use Rattle.run.proofs.run_through.Goals as goal

pub loop-record-init : goal.loop-record-init
loop-record-init c = record {
  bytes = ap (λ b. b.now) c.new-walk.ensures.bytes;
  last = c.new-walk.ensures.last;
  upto = rw c.new-walk.ensures.start (up_start c.args.last c.args.start.previous c.args.start.offset c.args.bytes.now c.args.out.now);
}

pub loop-record-smaller : goal.loop-record-smaller
loop-record-smaller c =
    let I = c.loop-record.invariant in
    let stands = walk-passed c.loop-record.walk I.bytes I.last c.in-Some.ensures.steps.passes in
    let room = takes_room (whole_takes c.args.last c.args.bytes.now c.loop-record.walk.at stands) in
    omega (arith, room.0, room.1)

pub loop-record-preserved : goal.loop-record-preserved
loop-record-preserved c =
    let I = c.loop-record.invariant in
    let P = c.in-Some.ensures.steps.passes in
    let previous = c.loop-record.previous in
    let number = passed-number c.loop-record.walk I.bytes I.last P in
    let reading = passed-reading c.loop-record.walk I.bytes I.last P in
    let follows = c.follows-follows.ensures ∙ ap (follows_from previous) number in
    let after = c.previous_after-previous.ensures ∙ ap (previous_after previous) number in
    record {
      bytes = passed-bytes c.loop-record.walk I.bytes I.last P;
      last = passed-last c.loop-record.walk I.bytes I.last P;
      upto = rw after
          (up_record c.args.last c.args.start.previous c.args.start.offset c.args.bytes.now c.args.out.now c.requires I.upto
          (walk-passed c.loop-record.walk I.bytes I.last P)
          (search rules)
          (rw reading at (rw follows at c.write_answer-put.ensures)));
    }

-- the line of a stop, at an equal place
stop-line :
    (n offset : ℕ) {at place to next : ℕ} {before after : List ℕ}
    → at ≡ place
    → Writes (stopped_line n (offset + at)) before to after next
    → Writes (stopped_line n (offset + place)) before to after next
stop-line n offset e W = rw e at W

pub returns : goal.returns
returns c =
    let I = c.loop-record.invariant in
    let stays = c.in_default.ensures.steps.same in
    elim c.match-stop.branch [
      | in-Some-stop w ↦
          let stands = walk-stopped c.loop-record.walk I.bytes I.last (rw stays at w.in-Some-stop.ensures) in
          let small : w.from.result < 2 ^ 8 = search rules in
          let some : c.is_some.result ≡ true = search rules in
          rw (stays, w.out-is, w.put-is, some)
          (up_stopped c.args.last c.args.start.previous c.args.start.offset c.args.bytes.now c.args.out.now c.requires I.upto
          (stands ∙ ap stopped (sym w.from.ensures))
          small
          (stop-line w.from.result c.args.start.offset (λ i. (stays i).at) w.write_stopped-put.ensures))
      | in_default-stop w ↦
          let none : c.is_some.result ≡ false = search rules in
          let stands = walk-ended c.loop-record.walk I.bytes I.last c.in_default.ensures.steps.none (rw stays at w.in_default-stop.ensures) in
          rw (stays, w.out-is, w.put-is, none)
          (up_ended c.args.last c.args.start.previous c.args.start.offset c.args.bytes.now c.args.out.now c.requires I.upto stands)
    ]
