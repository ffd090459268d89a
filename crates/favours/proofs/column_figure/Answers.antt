-- The tests in the rule's order, and the class's own sum in the column.
use Rattle.std.proofs.Common.{rules, ◌≡◌, ap, ◌∙◌, ◌+◌, ◌-◌, arith, w64, FitsSigned}
use Rattle.std.proofs.lemmas.Int.{to_z-of_z}
use Rattle.golay.specs.Answers.{accepted}
use Rattle.classes.specs.Classes.{column_figure}
use Rattle.columns.proofs.Picking.{column_at-within}
use Rattle.favours.proofs.Rules.{column-check, class_checked, before_checked, after_checked, within_checked}
use Rattle.favours.proofs.column_figure.Goals as goal

pub returns-in_err-check : goal.returns-in_err-check
returns-in_err-check c = search (rules, column-check)

pub returns-then-class-ge-CLASSES : goal.returns-then-class-ge-CLASSES
returns-then-class-ge-CLASSES c = class_checked c.args.reading.now c.args.class c.args.column c.in_ok-check.ensures.answer c.if-class-ge-CLASSES.true

pub returns-in-1-to-6 : goal.returns-in-1-to-6
returns-in-1-to-6 c =
    let xs = c.args.reading.now in
    let k = c.args.class in
    let j = c.args.column in
    let e : j - 1 + 1 ≡ j = omega arith in
    let f : FitsSigned w64 c.class_column.result = search rules in
    ap accepted (to_z-of_z w64 c.class_column.result f ∙ c.class_column.ensures ∙ column_at-within xs k (j - 1) (omega arith) ∙ ap (column_figure xs k) e)
    ∙ within_checked xs k j c.in_ok-check.ensures.answer c.if-class-ge-CLASSES.false (omega arith) (omega arith)

pub returns-in_default : goal.returns-in_default
returns-in_default c =
    before_checked c.args.reading.now c.args.class c.args.column c.in_ok-check.ensures.answer c.if-class-ge-CLASSES.false (omega arith)

pub returns-in_default-2 : goal.returns-in_default-2
returns-in_default-2 c =
    after_checked c.args.reading.now c.args.class c.args.column c.in_ok-check.ensures.answer c.if-class-ge-CLASSES.false (omega arith)
