-- Where there is room, its three parts stand one after the other.
use Rattle.std.proofs.Common.{length, arith}
use Rattle.totals.specs.Totals.{totals}
use Rattle.sheet.specs.Sheet.{SheetRoom}
use Rattle.sheet.proofs.Decided.{sheet_written}
use Rattle.sheet.proofs.write_sheet.Goals as goal

pub returns : goal.returns
returns c =
    let room : SheetRoom (length c.args.table.now) (length c.args.out.now) = record { lines = omega arith } in
    sheet_written (totals c.args.t c.args.table.now) c.args.out.now room c.write_counts-p.ensures.puts c.write_messages-q.ensures.puts
    c.write_reserves.ensures
