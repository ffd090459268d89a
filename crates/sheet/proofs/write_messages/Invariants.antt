-- The lines of the first messages stand in the buffer, and each took no more than the longest.
use Rattle.std.proofs.Common.{◌≡◌, ◌+◌, ◌*◌, ◌≤◌, length, take}
use Rattle.texts.specs.Buffers.{Puts}
use Rattle.sheet.specs.Sheet.{message_lines, longest_message}
use Rattle.sheet.proofs.write_messages.Given as goal

abbrev pub invariant-loop-message : goal.invariant-loop-message
invariant-loop-message l =
    Puts (message_lines 0 (take l.message l.table)) l.initial.out l.at l.out l.to
    × (l.to ≤ l.at + l.message * longest_message)
    × (length l.out ≡ length l.initial.out)
