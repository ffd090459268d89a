-- By the contract of `turn`; and its text fits its buffer.
-- Assumes nothing.
use Rattle.std.proofs.Common.{◌≡◌, false, ◌≤◌, ◌<◌, Option, ℕ, List, length, ◌+◌, ◌^◌, arith, rules}
use lib.Seq.{length-take-le}
use Rattle.records.specs.Records.{new_length}
use Rattle.run.proofs.Decided.{run_fits, run_near, run_left}
use Rattle.turns.specs.declared.kinds.Turned.{Turned}
use Rattle.turns.specs.Turns.{Turns, TurnRoom}
use Rattle.capture.proofs.LinesOffsetTurns.turn.Goals as goal

-- all that is held, which the text has room for
room :
    {offset start held buffer : ℕ} → held ≤ 65536 → offset + held < 2 ^ 64 → start ≡ offset → buffer ≡ 65575 → TurnRoom start held held buffer
room h offsets begins long = record {
  bytes = omega arith;
  text = record { lines = omega (arith, h, long); offsets = omega (arith, begins, offsets) };
}

-- every byte that is held is passed or left, and unless the run stopped less than a record is left
told :
    {previous : Option ℕ} {offset : ℕ} {held before after kept : List ℕ} {r : Turned}
    → Turns previous offset (length held) held before after kept r
    → (r.next + r.left ≡ offset + length held) × (r.outcome.stopped ≡ false → r.left < new_length)
told {previous} {offset} {held} {before} {after} {kept} {r} T =
    let there : length held ≤ length held = omega arith in
    let long = length-take-le (length held) held there in
    let near : r.outcome.through ≤ length held = omega (arith, run_near T.ran, long) in
    let left = (T.keeps.there (record { ordered = near; there = there })).1 in
    (omega (arith, T.next, left, near), λ e. omega (arith, run_left T.ran e, long, left))

pub write_text-requires : goal.write_text-requires
write_text-requires c =
    let long : length c.args.self.now.text ≡ 65575 = search rules in
    omega (arith, run_fits (c.turn-turned.ensures.room (room c.requires.held_bound c.requires.offset_bound c.start.ensures long)).ran, long)

pub returns-clause-left_value : goal.returns-clause-left_value
returns-clause-left_value c =
    let long : length c.args.self.now.text ≡ 65575 = search rules in
    omega (arith, (told (c.turn-turned.ensures.room (room c.requires.held_bound c.requires.offset_bound c.start.ensures long))).0, c.start.ensures)

pub returns-clause-left_short : goal.returns-clause-left_short
returns-clause-left_short c =
    let long : length c.args.self.now.text ≡ 65575 = search rules in
    (told (c.turn-turned.ensures.room (room c.requires.held_bound c.requires.offset_bound c.start.ensures long))).1 c.if-turned.false
