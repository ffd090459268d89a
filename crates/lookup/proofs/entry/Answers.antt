-- The entry's place in the table.
-- Assumes nothing.
use Rattle.std.proofs.Common.{◌≡◌, sym, subst, List, ℕ, ◌/◌, ◌%◌, get_or, arith}
use native.Mathlib.Nat.{mod-lt, zero-add}
use lib.Dec.{lit<}
use Rattle.code.specs.Code.{syndromes}
use Rattle.patterns.specs.Positions.{Stored, entry_at, AreStored}
use Rattle.table.proofs.Packed.{lows, highs}
use Rattle.table.proofs.Stored.{table_stored}
use Rattle.lookup.proofs.entry.Goals as goal

held :
    (s : ℕ) {low high : List ℕ}
    → AreStored 0 4096 low high
    → Stored (s % syndromes) (entry_at (get_or low (s / 4 % 1024) 0) (get_or high (s / 4 % 1024) 0) (s % 4))
held s t =
    let number : s % 4096 / 4 ≡ s / 4 % 1024 = omega arith in
    let entry : s % 4096 % 4 ≡ s % 4 = omega arith in
    rw (zero-add, number, entry) at (t.each (s % 4096) (mod-lt s (lit< tt)))

pub returns : goal.returns
unfolding lows highs
returns c = subst (Stored (c.args.s % syndromes)) (sym c.entry_at.ensures) (held c.args.s table_stored)
