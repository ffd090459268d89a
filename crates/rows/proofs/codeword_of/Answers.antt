-- The rows are the table of rule 3.6, which follows from rule 3.4.
use mathlib.Core.Path.{◌∙◌, sym}
use Prim.Native.Nat.{◌%◌}
use native.Mathlib.Nat.{mod-lt}
use lib.Pow.{pow_pos}
use Rattle.code.specs.Code.{messages}
use Rattle.code.proofs.Twelve.{codeword_rows}
use Rattle.algebra.proofs.Encoding.{codeword_rows_lem}
use Rattle.rows.proofs.Lowest.{lowest}
use Rattle.rows.proofs.codeword_of.Goals as goal

pub returns : goal.returns
returns c =
    let m = c.args.message in
    c.row_sum.ensures ∙ sym (lowest 12 codeword_rows tt m c.ranges.message.fits) ∙ sym (codeword_rows_lem (m % messages) (mod-lt m (pow_pos 12)))
