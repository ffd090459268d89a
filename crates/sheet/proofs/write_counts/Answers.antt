-- Each line leaves room for the next.
use Rattle.texts.proofs.Buffers.{puts_then}
use Rattle.sheet.proofs.Lines.{put-line}
use Rattle.sheet.proofs.write_counts.Goals as goal

pub returns-clause-puts : goal.returns-clause-puts
returns-clause-puts c =
    let first = c.write_count-p.ensures in
    let second = c.write_count-q.ensures in
    let third = c.write_count-s.ensures in
    let last = c.write_count.ensures in
    let read = put-line 16 62 first.line_feed_in_bounds c.requires first.writes in
    let accepted = put-line 20 42 second.line_feed_in_bounds read.1 second.writes in
    let refused-2 = put-line 21 21 third.line_feed_in_bounds accepted.1 third.writes in
    let refused-6 = put-line 21 0 last.line_feed_in_bounds refused-2.1 last.writes in
    puts_then (puts_then (puts_then read.0 accepted.0) refused-2.0) refused-6.0
