-- The text of the run fits its buffer.
-- Assumes nothing.
use Rattle.std.proofs.Common.{◌≡◌, arith, length, rules}
use Rattle.run.specs.Runs.{Room}
use Rattle.run.proofs.Decided.{run_fits}
use Rattle.capture.proofs.LinesOffsetTurns.last.Goals as goal

pub write_text-requires : goal.write_text-requires
write_text-requires c =
    let long : length c.args.self.now.text ≡ 65575 = search rules in
    let room : Room c.start.result.offset (length c.args.left.now) (length c.args.self.now.text) =
    record { lines = omega (arith, c.requires.left_bound, long); offsets = omega (arith, c.start.ensures, c.requires.offset_bound) } in
    omega (arith, run_fits (c.run-outcome.ensures.room room), long)
