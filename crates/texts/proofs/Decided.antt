-- Two outcomes that the promise of a line allows are equal: what the buffer holds afterwards, and the place.
-- Assumes nothing.
use mathlib.Core.Path.{◌≡◌, sym, ◌∙◌}
use mathlib.Core.List.{List}
use Prim.Native.Nat.{ℕ}
use Rattle.texts.specs.Buffers.{Writes}

pub writes-decided :
    {text before after later : List ℕ} {at next other : ℕ}
    → Writes text before at after next
    → Writes text before at later other
    → (after ≡ later) × (next ≡ other)
writes-decided p q = (p.buffer ∙ sym q.buffer, p.place ∙ sym q.place)
