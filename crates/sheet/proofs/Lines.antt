-- How long the sheet's lines are, and that one put after another leaves room for the rest.
-- Assumes nothing.
use mathlib.Core.Path.{◌≡◌, refl, sym, ap, ◌∙◌}
use mathlib.Core.Bool.{Bool, true, false, cond}
use mathlib.Core.List.{List, [], ◌∷◌, ◌++◌, append_assoc, append-nil}
use Prim.Native.Nat.{ℕ, suc, ◌+◌, ◌^◌, ◌≤◌, ◌<◌}
use native.Mathlib.Nat.{add-zero}
use native.Mathlib.Numerals.{add-one}
use native.Mathlib.Omega.{arith}
use lib.Dec.{eqb, lit≤}
use lib.ListN.{length, get_or, take, take-append-drop, length-append}
use lib.Seq.{take-suc, length-take-le}
use Rattle.texts.specs.Ascii.{ascii}
use Rattle.texts.specs.Texts.{line_feed, line_of, line_of_two}
use Rattle.texts.specs.Buffers.{fits, put, Puts, Writes}
use Rattle.texts.proofs.Buffers.{length-put, writes_puts}
use Rattle.texts.proofs.Decimal.{decimal-short}
use Rattle.sheet.specs.Sheet.{message_line, message_lines, smallest_line, longest_message}

-- a line of a number of 32 bits, and one of 64
pub count-short : (word : List ℕ) (n : ℕ) → n < 2 ^ 32 → length (line_of word n line_feed) ≤ length word + 11
count-short word n h = simp length-append (omega (arith, decimal-short 32 10 n (lit≤ tt) (lit≤ tt) h))

pub reserve_short : (word : List ℕ) (n : ℕ) → n < 2 ^ 64 → length (line_of word n line_feed) ≤ length word + 21
reserve_short word n h = simp length-append (omega (arith, decimal-short 64 20 n (lit≤ tt) (lit≤ tt) h))

pub message-short : (m count : ℕ) → m < 2 ^ 64 → count < 2 ^ 32 → length (message_line m count) ≤ longest_message
message-short m count h l = cases (eqb count 0)
  where
    cases : (none : Bool) → length (cond none [] (line_of_two (ascii "message ") m (ascii " ") count line_feed)) ≤ longest_message
    cases true = lit≤ tt
    cases false =
        simp length-append (omega (arith, decimal-short 64 20 m (lit≤ tt) (lit≤ tt) h, decimal-short 32 10 count (lit≤ tt) (lit≤ tt) l))

pub smallest-short : (n : ℕ) → n < 2 ^ 64 → length (smallest_line n) ≤ 30
smallest-short n h = cases (eqb n 0)
  where
    cases : (none : Bool) → length (cond none (ascii "smallest none\n") (line_of (ascii "smallest ") n line_feed)) ≤ 30
    cases true = lit≤ tt
    cases false = reserve_short (ascii "smallest ") n h

-- nothing, at a place: it changes nothing, whether it fits or not
put_nothing : (before : List ℕ) (at : ℕ) → before ≡ put [] before at
unfolding put
put_nothing before at = simp (add-zero, append-nil, take-append-drop)

either : {A : Type 0} {x y : A} (b : Bool) → x ≡ y → x ≡ cond b y x
either true e = e
either false e = refl

pub writes_nothing : (before : List ℕ) (at : ℕ) → Writes [] before at before at
writes_nothing before at = record {
  buffer = either (fits [] before at) (put_nothing before at);
  place = either (fits [] before at) (sym (add-zero at));
}

-- a line of at most n bytes, where there is room for it and for so many more
pub put-line :
    {text before after : List ℕ} {at next : ℕ} (n rest : ℕ)
    → length text ≤ n
    → at + (n + rest) ≤ length before
    → Writes text before at after next
    → Puts text before at after next × (next + rest ≤ length after)
put-line {text} {before} {at = at} n rest h room w =
    let p = writes_puts n h (omega arith) w in
    (p, omega (arith, p.place, ap length p.buffer, length-put text before at p.room))

-- the lines of a table's first counts, and those of the rest
lines-append : (m : ℕ) (front table : List ℕ) → message_lines m (front ++ table) ≡ message_lines m front ++ message_lines (m + length front) table
unfolding message_lines
lines-append m [] table = ap (λ (k : ℕ). message_lines k table) (sym (add-zero m))
lines-append m (count ∷ front) table =
    let k : suc m + length front ≡ m + suc (length front) = omega arith in
    ap (λ (l : List ℕ). message_line m count ++ l) (lines-append (suc m) front table)
    ∙ sym (append_assoc (message_line m count) (message_lines (suc m) front) (message_lines (suc m + length front) table))
    ∙ ap (λ (k : ℕ). (message_line m count ++ message_lines (suc m) front) ++ message_lines k table) k

pub lines_more :
    (table : List ℕ) (m : ℕ)
    → m < length table
    → message_lines 0 (take m table) ++ message_line m (get_or table m 0) ≡ message_lines 0 (take (m + 1) table)
unfolding message_lines
lines_more table m h =
    let l : 0 + length (take m table) ≡ m = omega (arith, length-take-le m table (omega arith)) in
    sym
    (ap (λ (k : ℕ). message_lines 0 (take k table)) (add-one m)
    ∙ ap (message_lines 0) (take-suc table m 0 h)
    ∙ lines-append 0 (take m table) (get_or table m 0 ∷ [])
    ∙ ap (λ (text : List ℕ). message_lines 0 (take m table) ++ text) (append-nil (message_line (0 + length (take m table)) (get_or table m 0)))
    ∙ ap (λ (k : ℕ). message_lines 0 (take m table) ++ message_line k (get_or table m 0)) l)

-- before the first
pub no_lines : (before : List ℕ) (at : ℕ) → at ≤ length before → Puts (message_lines 0 []) before at before at
unfolding message_lines
no_lines before at h = writes_puts 0 (lit≤ tt) (omega arith) (writes_nothing before at)
