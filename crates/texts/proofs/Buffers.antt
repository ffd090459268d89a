-- Texts in a buffer: one put after another is their join put at once, and so a line is put piece by piece.
-- Assumes nothing.
use mathlib.Core.Path.{◌≡◌, refl, sym, ap, ◌∙◌}
use mathlib.Core.Bool.{Bool, true, false}
use mathlib.Core.List.{List, ◌++◌, append_assoc}
use Prim.Native.Nat.{ℕ, ◌+◌, ◌≤◌, ◌<◌}
use native.Mathlib.Omega.{arith}
use lib.ListN.{length, take, drop, length-append, length-drop}
use lib.Seq.{paste, take-length, take_at, drop_at, drop-drop, length-take-le}
use borrow.Author.Tests.{le-leb, lt-leb, leb-true}
use Rattle.texts.specs.Buffers.{fits, put, Puts, Writes}

-- the copy of all bytes of a text
pub paste_put : (text buffer : List ℕ) (at : ℕ) → paste buffer at text (length text) ≡ put text buffer at
unfolding put
paste_put text buffer at = rw take-length

module _ (s buffer : List ℕ) (at : ℕ) (room : at + length s ≤ length buffer) where
  before_rest : length (take at buffer ++ s) ≡ at + length s
  before_rest = simp (length-append, length-take-le at buffer (omega arith))

  -- what stands before the place and the text itself, and what stands after it
  pub take_put : take (at + length s) (put s buffer at) ≡ take at buffer ++ s
  unfolding put
  take_put = take_at (take at buffer ++ s) (drop (at + length s) buffer) (at + length s) before_rest

  pub drop-put : drop (at + length s) (put s buffer at) ≡ drop (at + length s) buffer
  unfolding put
  drop-put = drop_at (take at buffer ++ s) (drop (at + length s) buffer) (at + length s) before_rest

  pub length-put : length (put s buffer at) ≡ length buffer
  unfolding put
  length-put = simp (length-append, length-take-le at buffer (omega arith), length-drop) (omega arith)

  pub put-put : (t : List ℕ) → put t (put s buffer at) (at + length s) ≡ put (s ++ t) buffer at
  unfolding put
  put-put t =
      let n = at + length s in
      let rest : drop (n + length t) (put s buffer at) ≡ drop (n + length t) buffer =
      sym (drop-drop (length t) n (put s buffer at)) ∙ ap (drop (length t)) drop-put ∙ drop-drop (length t) n buffer in
      let count : n + length t ≡ at + length (s ++ t) = simp length-append (omega arith) in
      (λ i. take_put i ++ t ++ rest i) ∙ (λ i. append_assoc (take at buffer) s t i ++ drop (count i) buffer)

-- a piece after a piece
pub puts_then :
    {s t before middle after : List ℕ} {at next last : ℕ} → Puts s before at middle next → Puts t middle next after last → Puts (s ++ t) before at after last
puts_then {s} {t} {before} {at = at} p q =
    let same = ap length p.buffer ∙ length-put s before at p.room in
    record {
      room = simp length-append (omega (arith, p.place, q.room, same));
      buffer = q.buffer ∙ (λ i. put t (p.buffer i) (p.place i)) ∙ put-put s before at p.room t;
      place = simp length-append (omega (arith, p.place, q.place));
    }

pub puts_text : {s t before after : List ℕ} {at next : ℕ} → s ≡ t → Puts s before at after next → Puts t before at after next
puts_text e p = rw e at p

-- a text that fits is written, and one that does not is not
pub puts_writes : {text before after : List ℕ} {at next : ℕ} → Puts text before at after next → Writes text before at after next
puts_writes {text} {before} {at = at} p =
    let f = le-leb (at + length text) (length before) p.room in
    record { buffer = simp f p.buffer; place = simp f p.place }

pub no_room : (text before : List ℕ) (at : ℕ) → length before < at + length text → Writes text before at before at
no_room text before at h = let f = lt-leb (at + length text) (length before) h in record { buffer = simp f; place = simp f }

-- where there is room for n bytes, a text of at most n is written whole
pub writes_puts :
    {text before after : List ℕ} {at next : ℕ} (n : ℕ)
    → length text ≤ n
    → at + n ≤ length before
    → Writes text before at after next
    → Puts text before at after next
writes_puts {text} {before} {at = at} n h l p =
    let room : at + length text ≤ length before = omega arith in
    let f = le-leb (at + length text) (length before) room in
    record { room = room; buffer = simp f at p.buffer; place = simp f at p.place }

-- the bytes up to the next place: those that stood there, and the text
pub puts_front : {text before after : List ℕ} {at next : ℕ} → Puts text before at after next → take next after ≡ take at before ++ text
puts_front {text} {before} {at = at} p = (λ i. take (p.place i) (p.buffer i)) ∙ take_put text before at p.room

-- a text, written or not, ends within the buffer, if its place lies there
pub writes-within : {text before after : List ℕ} {at next : ℕ} → Writes text before at after next → at ≤ length before → next ≤ length after
writes-within {text} {before} {after} {at} {next} w h = cases (fits text before at) refl
  where
    cases : (b : Bool) → fits text before at ≡ b → next ≤ length after
    cases true e =
        let room = leb-true (at + length text) (length before) e in
        omega (arith, room, simp e at w.place, ap length (simp e at w.buffer), length-put text before at room)
    cases false e = omega (arith, h, simp e at w.place, ap length (simp e at w.buffer))
