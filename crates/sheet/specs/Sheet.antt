-- Rule 18.6: the sheet of a tally and its table, as text.
use Rattle.std.specs.Prelude.{◌≡◌, cond, List, [], ◌∷◌, ◌++◌, ℕ, suc, ◌+◌, ◌*◌, ◌≤◌, eqb, length}
use Rattle.texts.specs.Ascii.{ascii}
use Rattle.texts.specs.Texts.{line_feed, line_of, line_of_two}
use Rattle.texts.specs.Buffers.{Puts}
use Rattle.totals.specs.declared.kinds.Tally.{Tally}
use Rattle.totals.specs.Totals.{Totals}

-- how many were read, accepted, refused with 2 and refused with 6
abbrev pub count_lines : Tally → List ℕ
count_lines t =
    line_of (ascii "read ") t.read line_feed
    ++ line_of (ascii "accepted ") t.accepted line_feed
    ++ line_of (ascii "refused 2 ") t.refused_2 line_feed
    ++ line_of (ascii "refused 6 ") t.refused_6 line_feed

-- a message and its count, unless that is 0
abbrev pub message_line : ℕ → ℕ → List ℕ
message_line m count = cond (eqb count 0) [] (line_of_two (ascii "message ") m (ascii " ") count line_feed)

-- those of a table whose first count is that of message m
unfoldable pub message_lines : ℕ → List ℕ → List ℕ
message_lines m [] = []
message_lines m (count ∷ table) = message_line m count ++ message_lines (suc m) table

-- the smallest reserve, where 0 stands for none (18.1)
abbrev pub smallest_line : ℕ → List ℕ
smallest_line smallest = cond (eqb smallest 0) (ascii "smallest none\n") (line_of (ascii "smallest ") smallest line_feed)

abbrev pub reserve_lines : Tally → List ℕ
reserve_lines t = smallest_line t.smallest ++ line_of (ascii "total ") t.total line_feed

-- the whole sheet
abbrev pub sheet : Totals → List ℕ
sheet T = count_lines T.tally ++ message_lines 0 T.table ++ reserve_lines T.tally

-- the most bytes that the counts take, the line of a message, and the reserves: numbers of ten digits, and of twenty
abbrev pub longest_counts : ℕ
longest_counts = 78

abbrev pub longest_message : ℕ
longest_message = 40

abbrev pub longest_reserves : ℕ
longest_reserves = 57

-- room for the sheet of a table, whatever its counts are
pub record SheetRoom (table buffer : ℕ) : Type 0 where
  pub lines : longest_counts + table * longest_message + longest_reserves ≤ buffer

-- the sheet of any totals into any buffer: its text at the start, and how long it is; without room nothing is written. No sheet is empty, so
-- that 0 tells it
pub record SheetRule (T : Totals) (before after : List ℕ) (r : ℕ) : Type 0 where
  pub room : SheetRoom (length T.table) (length before) → Puts (sheet T) before 0 after r
  pub none : (SheetRoom (length T.table) (length before) → ⊥) → (after ≡ before) × (r ≡ 0)
