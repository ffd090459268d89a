-- Turn by turn: what is left of a piece is kept, and the turns over any pieces of a capture make of it what the run over the capture in one does,
-- whatever is told of its records.
-- Assumes nothing.
use mathlib.Core.Path.{◌≡◌, refl, sym, ap, ◌∙◌}
use mathlib.Core.Bool.{Bool, true, false}
use mathlib.Core.List.{List, [], ◌∷◌, ◌++◌, append_assoc, append-nil}
use Prim.Native.Nat.{ℕ, zero, suc, ◌+◌, ◌-◌, ◌≤◌}
use native.Mathlib.Nat.{zero-add}
use native.Mathlib.Omega.{arith}
use lib.Dec.{leb}
use lib.ListN.{length, take, drop, length-drop}
use lib.Seq.{paste, take-add, drop_at, drop-drop, drop-append-le, length-take-le}
use borrow.Author.Tests.{leb-true, leb-false}
use Rattle.std.specs.Prelude.{Option}
use Rattle.sequence.specs.Sequence.{previous_after}
use Rattle.texts.specs.Buffers.{put}
use Rattle.texts.proofs.Buffers.{take_put}
use Rattle.records.specs.Records.{Record, record_length, Standing, ended, stopped, whole, standing, in_piece}
use Rattle.records.specs.Capture.{Telling, run_from}
use Rattle.records.proofs.Standing.{whole_long, piece_whole, stopped-front, whole-front}
use Rattle.records.proofs.Running.{run-ended, run-stopped, run-whole}
use Rattle.pieces.specs.Pieces.{Within, Keeps, all_pieces, going_on, turns_from}

module _ (held : List ℕ) (from end : ℕ) (w : Within from end (length held)) where
  -- what is left, as the bytes that are moved
  left : drop from (take end held) ≡ take (end - from) (drop from held)
  left =
      let e : end ≡ from + (end - from) = omega (arith, w.ordered) in
      ap (λ (k : ℕ). drop from (take k held)) e
      ∙ ap (drop from) (take-add from (end - from) held)
      ∙ drop_at (take from held) (take (end - from) (drop from held)) from (length-take-le from held (omega (arith, w.ordered, w.there)))

  length_left : length (drop from (take end held)) ≡ end - from
  length_left = simp (length-drop, length-take-le end held w.there)

  pub keep_done : {kept : List ℕ} → kept ≡ paste held 0 (drop from held) (end - from) → Keeps from end held kept (end - from)
  unfolding put
  keep_done moves = record {
    there = λ t. (moves ∙ (λ i. take 0 held ++ sym left i ++ drop (0 + sym length_left i) held), refl);
    missing = λ m. absurd (m w);
  }

  -- the next turn begins with what this one left
  pub left_in_front : {kept : List ℕ} {r : ℕ} → Keeps from end held kept r → take r kept ≡ drop from (take end held)
  left_in_front K =
      let k = K.there w in
      let l = drop from (take end held) in
      (λ i. take ((k.1 ∙ sym length_left ∙ sym (zero-add (length l))) i) (k.0 i))
      ∙ take_put l held 0 (omega (arith, length_left, w.there))

-- two outcomes that the promise of what is kept allows are equal: the bytes, and how many are left
pub keeps-once :
    {from end : ℕ} {held kept rest : List ℕ} {r s : ℕ} → Keeps from end held kept r → Keeps from end held rest s → (kept ≡ rest) × (r ≡ s)
keeps-once {from} {end} {held} {kept} {rest} {r} {s} K L = cases (leb from end) (leb end (length held)) refl refl
  where
    both : (kept ≡ held) × (r ≡ end) → (rest ≡ held) × (s ≡ end) → (kept ≡ rest) × (r ≡ s)
    both p q = (p.0 ∙ sym q.0, p.1 ∙ sym q.1)

    none : (Within from end (length held) → ⊥) → (kept ≡ rest) × (r ≡ s)
    none m = both (K.missing m) (L.missing m)

    cases : (a b : Bool) → leb from end ≡ a → leb end (length held) ≡ b → (kept ≡ rest) × (r ≡ s)
    cases true true e f =
        let w : Within from end (length held) = record { ordered = leb-true from end e; there = leb-true end (length held) f } in
        let k = K.there w in
        let l = L.there w in
        (k.0 ∙ sym l.0, k.1 ∙ sym l.1)
    cases true false e f = none (λ w. omega (arith, leb-false end (length held) f, w.there))
    cases false b e f = none (λ w. omega (arith, leb-false from end e, w.ordered))

module _ {A : Type 0} (t : Telling A) where
  -- a piece that begins at an offset, and what follows it
  module _ (bytes rest : List ℕ) (start : ℕ) where
    abbrev on : Option ℕ → ℕ → A
    on previous offset = run_from t true previous offset (drop (offset - start) bytes ++ rest)

    -- the run over both is the run over the piece, which goes on where it ends with what it left and what follows
    abbrev Goes : Option ℕ → ℕ → List ℕ → Type 0
    Goes previous offset front = run_from t true previous offset (front ++ rest) ≡ run_from (going_on t on) false previous offset front

    one_more :
        (previous : Option ℕ) (offset : ℕ) (front : List ℕ)
        → drop (offset - start) bytes ≡ front
        → ((r : Record) → standing front ≡ whole r → Goes (previous_after previous r.number) (offset + record_length r) (drop (record_length r) front))
        → Goes previous offset front
    one_more previous offset front e tail = cases (in_piece false (standing front)) refl
      where
        u : Telling A
        u = going_on t on

        cases : (s : Standing Record) → in_piece false (standing front) ≡ s → Goes previous offset front
        cases ended q =
            ap (λ (l : List ℕ). run_from t true previous offset (l ++ rest)) (sym e) ∙ sym (run-ended u false previous offset front q)
        cases (stopped n) q =
            run-stopped t true previous offset (front ++ rest) (stopped-front front rest q) ∙ sym (run-stopped u false previous offset front q)
        cases (whole r) q =
            let w = piece_whole false (standing front) q in
            run-whole t true previous offset (front ++ rest) (whole-front front rest q)
            ∙ ap (λ (l : List ℕ). t.at_record previous r (run_from t true (previous_after previous r.number) (offset + record_length r) l))
            (drop-append-le (record_length r) front rest (whole_long front w).1)
            ∙ ap (t.at_record previous r) (tail r w)
            ∙ sym (run-whole u false previous offset front q)

    goes :
        (fuel : ℕ) (previous : Option ℕ) (offset : ℕ) (front : List ℕ)
        → length front ≤ fuel
        → start ≤ offset
        → drop (offset - start) bytes ≡ front
        → Goes previous offset front
    goes zero previous offset front h l e =
        one_more previous offset front e (λ r w. let k = whole_long front w in absurd (omega (arith, k.0, k.1)))
    goes (suc fuel) previous offset front h l e =
        one_more previous offset front e
        (λ r w.
        let n = record_length r in
        let k = whole_long front w in
        let place : offset - start + n ≡ offset + n - start = omega arith in
        goes fuel (previous_after previous r.number) (offset + n) (drop n front) (simp length-drop (omega (arith, k.0, k.1))) (omega arith)
        (ap (λ (k : ℕ). drop k bytes) (sym place) ∙ sym (drop-drop n (offset - start) bytes) ∙ ap (drop n) e))

    pub piece_told : (previous : Option ℕ) → Goes previous start bytes
    piece_told previous =
        let z : start - start ≡ 0 = omega arith in
        goes (length bytes) previous start bytes (omega arith) (omega arith) (ap (λ (k : ℕ). drop k bytes) z)

  pub pieces_told :
      (previous : Option ℕ) (offset : ℕ) (held : List ℕ) (pieces : List (List ℕ))
      → turns_from t previous offset held pieces ≡ run_from t true previous offset (held ++ all_pieces pieces)
  unfolding turns_from
  pieces_told previous offset held [] = ap (run_from t true previous offset) (sym (append-nil held))
  pieces_told previous offset held (piece ∷ pieces) =
      let bytes = held ++ piece in
      (λ i. run_from (going_on t (λ number next. pieces_told number next (drop (next - offset) bytes) pieces i)) false previous offset bytes)
      ∙ sym (piece_told bytes (all_pieces pieces) offset previous)
      ∙ ap (run_from t true previous offset) (append_assoc held piece (all_pieces pieces))
