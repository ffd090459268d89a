-- The larger of a class's two largest is its figure.
use Rattle.std.proofs.Common.{rules, w64, FitsSigned, ap, ◌∙◌}
use Rattle.std.proofs.Math.Facts.{to_z-of_z}
use Rattle.golay.specs.Answers.{accepted}
use Rattle.reading.proofs.Calls.{passed}
use Rattle.details.proofs.Sizing.{class_tops}
use Rattle.soft.proofs.Rules.{figure-check, figure_above, figure-within}
use Rattle.soft.proofs.class_figure.Goals as goal

pub returns-in_err-check : goal.returns-in_err-check
returns-in_err-check c = search (rules, figure-check)

pub returns-then-class-ge-CLASSES : goal.returns-then-class-ge-CLASSES
returns-then-class-ge-CLASSES c =
    let (l, e) = passed c.args.reading.now c.in_ok-check.ensures.answer in
    figure_above c.args.reading.now c.args.class l e c.if-class-ge-CLASSES.true

pub returns : goal.returns
returns c =
    let (l, e) = passed c.args.reading.now c.in_ok-check.ensures.answer in
    let known = c.if-class-ge-CLASSES.false in
    let A = class_tops l c.column_sums-columns.ensures c.args.class known c.class_best.ensures in
    let f : FitsSigned w64 c.class_best.result.best = search rules in
    figure-within c.args.reading.now c.args.class l e known (record { message = _; largest = A.largest; is = ap accepted (to_z-of_z f ∙ A.best) })
