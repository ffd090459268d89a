-- The line of one message more stands after those of the first.
use Rattle.std.proofs.Common.{◌+◌, ◌≤◌, length, refl, arith}
use Rattle.texts.proofs.Buffers.{puts_then, puts_text, writes_puts}
use Rattle.sheet.specs.Sheet.{longest_message}
use Rattle.sheet.proofs.Lines.{lines_more, no_lines}
use Rattle.sheet.proofs.write_messages.Goals as goal

pub loop-message-init : goal.loop-message-init
loop-message-init c = (no_lines c.args.out.now c.args.at (omega arith), omega arith, refl)

pub loop-message-preserved : goal.loop-message-preserved
loop-message-preserved c =
    let written = c.write_message-to.ensures in
    let inv = c.loop-message.invariant in
    let room : c.loop-message.to + longest_message ≤ length c.loop-message.out = omega arith in
    let line = writes_puts longest_message written.count_len_bound room written.writes in (
      puts_text (lines_more c.args.table.now c.loop-message.message c.loop-message-test.true) (puts_then inv.0 line),
      omega (arith, line.place, written.count_len_bound),
      omega arith,
    )
