-- The first line leaves room for the second.
use Rattle.std.proofs.Common.{rules}
use Rattle.texts.specs.Ascii.{ascii}
use Rattle.texts.proofs.Buffers.{puts_then}
use Rattle.sheet.proofs.Lines.{reserve_short, smallest-short, put-line}
use Rattle.sheet.proofs.write_reserves.Goals as goal

pub returns : goal.returns
returns c =
    let t = c.args.t in
    let smallest = put-line 30 27 (smallest-short t.smallest (search rules)) c.requires c.write_smallest-p.ensures in
    let total = put-line 27 0 (reserve_short (ascii "total ") t.total (search rules)) smallest.1 c.write_one.ensures in
    puts_then smallest.0 total.0
