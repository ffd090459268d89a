-- The table in rows of 128 entries: row k of the stored table holds the stored patterns of the 128 syndromes from 128 k on.
-- Assumes nothing.
use mathlib.Core.Path.{◌≡◌}
use Prim.Native.Nat.{ℕ, ◌+◌, ◌*◌}
use native.Mathlib.Nat.{mul_assoc}
use lib.Dec.{T, leb, leb→le}
use lib.ListN.{take, drop}
use Rattle.patterns.specs.Positions.{AreStored}
use Rattle.patterns.proofs.Positions.{part_stored}
use Rattle.table.proofs.Packed.{lows, highs}
use Rattle.table.proofs.Stored.{table_stored}

-- row k, where the row's number is k
pub picked :
    (k : ℕ) {row : ℕ} → row ≡ k → T (leb ((k * 32 + 32) * 4) 4096) → AreStored (row * 128) 128 (take 32 (drop (k * 32) lows)) (take 32 (drop (k * 32) highs))
picked k e t = rw (e, ← mul_assoc k 32 4) (part_stored table_stored (k * 32) 32 (leb→le ((k * 32 + 32) * 4) 4096 t))
