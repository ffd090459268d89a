-- The new size is the least, or it is not.
use Rattle.std.proofs.Common.{ap, ◌∙◌, w64}
use Rattle.std.proofs.lemmas.Int.{to_z-of_z}
use Rattle.contest.specs.Words.{one}
use Rattle.details.proofs.Sizing.{column-least, column-other}
use Rattle.details.proofs.Sizes.with_column.Goals as goal

pub returns-then-x-self : goal.returns-then-x-self
returns-then-x-self c fs H =
    let g = c.ranges.f in
    let x = rw (to_z-of_z w64 c.args.f g) at c.size-x.ensures in
    let s = rw (to_z-of_z w64 c.args.f g) at c.negative.ensures in
    column-least H c.requires.within.within x (c.bit-s.ensures ∙ ap one s) c.if-x-self.true

pub returns-else-x-self : goal.returns-else-x-self
returns-else-x-self c fs H =
    let g = c.ranges.f in
    let x = rw (to_z-of_z w64 c.args.f g) at c.size-x.ensures in
    let s = rw (to_z-of_z w64 c.args.f g) at c.negative.ensures in
    column-other H c.requires.within.within x (c.bit-s.ensures ∙ ap one s) c.if-x-self.false c.smaller.ensures
