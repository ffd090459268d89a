-- What a line ends with stands whole in an array that has room for the longest end.
-- Assumes nothing.
use mathlib.Core.Path.{◌≡◌}
use mathlib.Core.List.{List}
use Prim.Native.Nat.{ℕ, ◌≤◌}
use native.Mathlib.Omega.{arith}
use lib.ListN.{length, take}
use Rattle.texts.specs.Buffers.{Writes}
use Rattle.texts.proofs.Buffers.{writes_puts, puts_front}
use Rattle.suffixes.specs.Suffixes.{longest_end}

pub end_whole :
    {text before after : List ℕ} {next : ℕ}
    → length text ≤ longest_end
    → longest_end ≤ length before
    → Writes text before 0 after next
    → (take next after ≡ text) × (next ≤ longest_end)
end_whole short room w = let p = writes_puts longest_end short room w in (puts_front p, omega (arith, p.place, short))
