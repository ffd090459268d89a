-- Rules 5.9 and 15.8: the stored table is the table of patterns, at every syndrome. A computed test over all of it: each entry has 20 bits, its
-- fields are in order, and the word that they make is the pattern that stands at the syndrome in `table`.
-- Assumes nothing.
use mathlib.Core.Path.{◌≡◌, sym, ap₂, subst}
use mathlib.Core.Logic.{◌⊎◌, inl, inr}
use mathlib.Core.Bool.{Bool, true, false, ◌&&◌, ◌||◌}
use mathlib.Core.List.{List, [], ◌∷◌}
use Prim.Native.Nat.{ℕ, ◌/◌, ◌%◌, ◌^◌, ◌≤◌, ◌<◌}
use native.Mathlib.Nat.{zero-add}
use native.Mathlib.Omega.{arith}
use lib.Dec.{T, leb, leb→le, ltb, ltb→lt, eqb, eqb→eq}
use lib.ListN.{get_or}
use Rattle.binary.proofs.Tests.{and_left, and_right, every, at}
use Rattle.code.specs.Code.{positions}
use Rattle.patterns.specs.Patterns.{IsPattern}
use Rattle.patterns.specs.Positions.{none, spread, InOrder, fields, Stored, entry_at, AreStored}
use Rattle.table.proofs.Table.{table}
use Rattle.table.proofs.Packed.{lows, highs}
use Rattle.table.proofs.Lookup.{Tree, build, find, find_build}
use Rattle.table.proofs.Entries.{table-pattern}

-- ---- order, as a test

next : ℕ → ℕ → Bool
next before p = (ltb before p && leb p positions) || eqb p none

in_order : ℕ → List ℕ → Bool
in_order before [] = true
in_order before (p ∷ ps) = next before p && in_order p ps

either : (a b c : Bool) → T ((a && b) || c) → (T a × T b) ⊎ T c
either true true c t = inl (tt, tt)
either true false c t = inr t
either false b c t = inr t

next-holds : (before p : ℕ) → T (next before p) → ((before < p) × (p ≤ positions)) ⊎ (p ≡ none)
unfolding next
next-holds before p t = read (either (ltb before p) (leb p positions) (eqb p none) t)
  where
    read : (T (ltb before p) × T (leb p positions)) ⊎ T (eqb p none) → ((before < p) × (p ≤ positions)) ⊎ (p ≡ none)
    read (inl h) = inl (ltb→lt before p h.0, leb→le p positions h.1)
    read (inr e) = inr (eqb→eq p none e)

order-holds : (before : ℕ) (ps : List ℕ) → T (in_order before ps) → InOrder before ps
unfolding in_order
order-holds before [] t = tt
order-holds before (p ∷ ps) t =
    (next-holds before p (and_left (next before p) (in_order p ps) t), order-holds p ps (and_right (next before p) (in_order p ps) t))

-- ---- the test of the whole table

stores : ℕ → ℕ → Bool
stores entry pattern = ltb entry (32 ^ 4) && in_order 0 (fields 4 entry) && eqb (spread (fields 4 entry)) pattern

low_tree : Tree
unfolding lows
low_tree = build 10 lows

high_tree : Tree
unfolding highs
high_tree = build 10 highs

stored_at : ℕ → ℕ → Bool
stored_at s pattern = stores (entry_at (find low_tree (s / 4)) (find high_tree (s / 4)) (s % 4)) pattern

all_stored : T (every stored_at 0 table)
unfolding stored_at stores in_order next low_tree high_tree table
all_stored = tt

-- ---- what it says of one entry

stored_pattern : (s entry : ℕ) → s < 4096 → T (stores entry (get_or table s 0)) → Stored s entry
unfolding stores
stored_pattern s entry h t =
    let short = ltb entry (32 ^ 4) in
    let order = in_order 0 (fields 4 entry) in
    let equal = eqb (spread (fields 4 entry)) (get_or table s 0) in
    let both = and_left (short && order) equal t in
    record {
      short = ltb→lt entry (32 ^ 4) (and_left short order both);
      order = order-holds 0 (fields 4 entry) (and_right short order both);
      rule =
          subst (IsPattern s) (sym (eqb→eq (spread (fields 4 entry)) (get_or table s 0) (and_right (short && order) equal t)))
          (table-pattern s h);
    }

passes : (s : ℕ) → s < 4096 → T (stores (entry_at (get_or lows (s / 4) 0) (get_or highs (s / 4) 0) (s % 4)) (get_or table s 0))
unfolding stored_at low_tree high_tree table
passes s h =
    subst (λ (entry : ℕ). T (stores entry (get_or table s 0)))
    (ap₂ (λ (low high : ℕ). entry_at low high (s % 4)) (find_build 10 lows (s / 4) (omega arith)) (find_build 10 highs (s / 4) (omega arith)))
    (at stored_at table all_stored s h)

pub table_stored : AreStored 0 4096 lows highs
table_stored = record {
  each = λ s h. rw zero-add (stored_pattern s (entry_at (get_or lows (s / 4) 0) (get_or highs (s / 4) 0) (s % 4)) h (passes s h));
}
