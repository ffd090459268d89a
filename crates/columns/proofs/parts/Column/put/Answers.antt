-- The sum put in stands in its place, and those before it are as they were.
use Rattle.std.proofs.Common.{◌∙◌, pos, arith, lit<}
use Rattle.std.proofs.Math.ListN.{length-set}
use Rattle.signed.proofs.Locals.{reads}
use Rattle.columns.specs.Columns.{SumAt}
use Rattle.columns.proofs.Filling.{put}
use Rattle.columns.proofs.parts.Column.put.Goals as goal

pub loop-n-preserved : goal.loop-n-preserved
loop-n-preserved c =
    let inv = c.loop-n.invariant in (
      length-set c.loop-n.sums _ _ ∙ inv.0,
      λ xs C S.
          let s = c.sum_of.ensures xs _ C in
          rw (reads s.bound (lit< tt)) (put (pos 0) (SumAt xs) _ _ (omega arith) (omega arith) s (inv.1 xs C S)),
    )
