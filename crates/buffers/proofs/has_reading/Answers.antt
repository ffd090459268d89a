-- The tests are the definition's.
use mathlib.Core.Path.{◌≡◌, refl, sym, ◌∙◌}
use mathlib.Core.Bool.{true, false}
use Rattle.buffers.proofs.Holding.{whole_has, not-whole}
use Rattle.buffers.proofs.has_reading.Goals as goal

pub returns-then-is_multiple_of : goal.returns-then-is_multiple_of
returns-then-is_multiple_of c = sym (whole_has c.args.buffer.now c.args.number (c.if-is_multiple_of.ensures.0 refl))

pub returns-else-is_multiple_of : goal.returns-else-is_multiple_of
returns-else-is_multiple_of c =
    c.if-is_multiple_of.false
    ∙ sym (not-whole c.args.buffer.now c.args.number (λ e. let f : false ≡ true = c.if-is_multiple_of.ensures.1 e in cc))
