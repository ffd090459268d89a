-- Of the column's eight sums the one in the class's place.
use Rattle.std.proofs.Common.{◌∙◌, lit<}
use Rattle.signed.proofs.Locals.{reads}
use Rattle.columns.proofs.Picking.{column_at-sum}
use Rattle.columns.proofs.class_column.Goals as goal

pub returns : goal.returns
returns c =
    let xs = c.args.reading.now in
    let i = c.args.i in
    let x = c.characters-x in
    let S = c.sum_of.ensures xs i c.at.ensures in
    reads S.bound (lit< tt) ∙ column_at-sum xs c.args.class i c.if-i-ge6.false x.result x.ensures.result_value (x.ensures.by_index i) S
