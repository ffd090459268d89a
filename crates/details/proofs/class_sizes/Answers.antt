-- One column more is what the columns passed and it come to.
use Rattle.std.proofs.Common.{◌+◌, ◌*◌, ◌/◌, ◌%◌, arith, add-one, get_or, lit<}
use Rattle.signed.proofs.Locals.{reads}
use Rattle.columns.specs.Columns.{front}
use Rattle.columns.proofs.Picking.{front_long}
use Rattle.details.proofs.Sizing.{few, picks-long}
use Rattle.details.proofs.class_sizes.Goals as goal

pub with_column-t-requires-clause-few : goal.with_column-t-requires-clause-few
with_column-t-requires-clause-few c =
    let l = c.loop-i in
    let x = c.characters-x.result in
    few 5 l.invariant (rw (picks-long _ _ (front l.i x), front_long l.i x) (omega arith)) (omega arith)

pub loop-i-preserved : goal.loop-i-preserved
loop-i-preserved c =
    let l = c.loop-i in
    let x = c.characters-x.result in
    let small = c.args.sums.now.within (l.i * 8 + c.args.k / 64 % 2 * 4 + get_or x l.i 0) in
    rw (add-one l.i, front_long l.i x) (rw (reads small (lit< tt)) at (c.with_column-t.ensures _ l.invariant))
