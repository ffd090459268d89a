-- The sheet's promise, by whether there is room; which can be told, so two outcomes that it allows are equal: the buffer, and how long the sheet
-- is.
-- Assumes nothing.
use mathlib.Core.Path.{◌≡◌, refl, sym, ◌∙◌}
use mathlib.Core.Bool.{Bool, true, false}
use mathlib.Core.List.{List}
use Prim.Native.Nat.{ℕ, ◌+◌, ◌*◌, ◌≤◌}
use native.Mathlib.Omega.{arith}
use lib.Dec.{leb}
use lib.ListN.{length}
use borrow.Author.Tests.{leb-true, leb-false}
use Rattle.texts.specs.Buffers.{Puts}
use Rattle.texts.proofs.Buffers.{puts_then}
use Rattle.totals.specs.Totals.{Totals}
use Rattle.sheet.specs.Sheet.{count_lines, message_lines, reserve_lines, longest_counts, longest_message, longest_reserves, SheetRoom, SheetRule}

module _ (T : Totals) (before : List ℕ) where
  abbrev Room : Type 0
  Room = SheetRoom (length T.table) (length before)

  abbrev longest : ℕ
  longest = longest_counts + length T.table * longest_message + longest_reserves

  pub sheet_unwritten : (Room → ⊥) → SheetRule T before before 0
  sheet_unwritten none = record { room = λ R. absurd (none R); none = λ n. (refl, refl) }

  pub sheet_written :
      {one two after : List ℕ} {p q r : ℕ}
      → Room
      → Puts (count_lines T.tally) before 0 one p
      → Puts (message_lines 0 T.table) one p two q
      → Puts (reserve_lines T.tally) two q after r
      → SheetRule T before after r
  sheet_written R counts messages reserves = record {
    room = λ r. puts_then (puts_then counts messages) reserves;
    none = λ none. absurd (none R);
  }

  -- whether there is room can be told
  by_room : {P : Type 0} → (Room → P) → ((Room → ⊥) → P) → P
  by_room {P} there missing = cases (leb longest (length before)) refl
    where
      cases : (b : Bool) → leb longest (length before) ≡ b → P
      cases true e = there (record { lines = leb-true longest (length before) e })
      cases false e = missing (λ R. omega (arith, leb-false longest (length before) e, R.lines))

  pub sheet-once : {after later : List ℕ} {r s : ℕ} → SheetRule T before after r → SheetRule T before later s → (after ≡ later) × (r ≡ s)
  sheet-once S U =
      by_room
      (λ R. let p = S.room R in let q = U.room R in (p.buffer ∙ sym q.buffer, p.place ∙ sym q.place))
      (λ none. let (a, p) = S.none none in let (b, q) = U.none none in (a ∙ sym b, p ∙ sym q))

  -- the sheet ends within the buffer
  pub sheet-within : {after : List ℕ} {r : ℕ} → SheetRule T before after r → length after ≡ length before → r ≤ length after
  sheet-within S same =
      by_room
      (λ R. let p = S.room R in omega (arith, p.room, p.place, same))
      (λ none. let (a, p) = S.none none in omega (arith, p))
