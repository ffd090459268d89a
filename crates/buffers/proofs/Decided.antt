-- Two parts that the promise of `reading_at` allows hold the same and begin at the same place.
use mathlib.Core.Path.{◌≡◌, sym, ◌∙◌}
use mathlib.Core.List.{List}
use Prim.Native.Nat.{ℕ}
use lib.IntN.{ℤ}
use denote.Ref.{Bor}
use Rattle.buffers.specs.Buffers.{LendsReading}

pub reading-decided :
    {buffer part other : Bor (List ℤ)} {number : ℕ}
    → LendsReading buffer number part
    → LendsReading buffer number other
    → (part.now ≡ other.now) × (part.ref_ptr ≡ other.ref_ptr)
reading-decided p q = (p.contents ∙ sym q.contents, p.begins ∙ sym q.begins)
