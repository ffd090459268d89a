-- The rows are those of a codeword's message (3.5).
use mathlib.Core.Path.{◌∙◌, sym}
use Prim.Native.Nat.{◌%◌}
use native.Mathlib.Nat.{mod-lt}
use lib.Pow.{pow_pos}
use Rattle.code.specs.Code.{words}
use Rattle.algebra.proofs.Encoding.{message_rows, message_rows_lem}
use Rattle.rows.proofs.Lowest.{lowest}
use Rattle.rows.proofs.message_of.Goals as goal

pub returns : goal.returns
returns c =
    let word = c.args.word in
    c.row_sum.ensures ∙ sym (lowest 24 message_rows tt word c.ranges.word.fits) ∙ sym (message_rows_lem (word % words) (mod-lt word (pow_pos 24)))
