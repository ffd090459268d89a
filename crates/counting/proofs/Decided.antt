-- Two outcomes that the promises of a run and of a turn allow are equal; and how far a run came, and what it left.
-- Assumes nothing.
use mathlib.Core.Path.{◌≡◌, refl, sym, ap, ◌∙◌}
use mathlib.Core.Bool.{Bool, true, false, not, cond}
use mathlib.Core.List.{List, [], ◌∷◌}
use Prim.Native.Nat.{ℕ, zero, suc, ◌+◌, ◌≤◌, ◌<◌}
use native.Mathlib.Omega.{arith}
use lib.Dec.{leb, eqb, lit≤}
use lib.ListN.{length, drop}
use lib.Seq.{length-take-le}
use borrow.Author.Tests.{ne_eqb}
use Rattle.std.proofs.Common.{rules}
use Rattle.std.specs.Prelude.{Option, None, Some}
use Rattle.golay.specs.declared.kinds.Refusal.{Refusal}
use Rattle.golay.proofs.Decided.{reason}
use Rattle.std.proofs.Math.Decide.{dec_le}
use Rattle.decoding.proofs.Decoding.{a_decoder}
use Rattle.sequence.specs.Sequence.{previous_after}
use Rattle.records.specs.Records.{is_old_mark, is_new_mark, Record, old_length, new_length, record_length, Standing, ended, stopped, whole, standing, in_piece}
use Rattle.records.specs.Capture.{Telling, run_at, run_in, run_from, ending}
use Rattle.records.proofs.Standing.{tested}
use Rattle.records.proofs.Running.{end_near, left_short}
use Rattle.pieces.proofs.Pieces.{keeps-once}
use Rattle.totals.specs.Totals.{Totals}
use Rattle.counting.specs.Reports.{Came, came}
use Rattle.counting.specs.Counting.{stop_number, CountsRun, CountsTurn}

pub counts_once :
    {last : Bool} {bytes : List ℕ} {before after later : Totals} {stop other through far : ℕ}
    → CountsRun last bytes before after stop through
    → CountsRun last bytes before later other far
    → (after ≡ later) × (stop ≡ other) × (through ≡ far)
counts_once R S =
    let (decode, D) = a_decoder in
    let e = R.ended None 0 ∙ sym (S.ended None 0) in
    let through = ap (λ (c : Came). c.offset) e in
    (R.counted decode D None 0 ∙ sym (S.counted decode D None 0), ap (λ (c : Came). c.stop) e, omega (arith, through))

-- a stop's number tells its reason
abbrev stop_of : ℕ → Option Refusal
stop_of zero = None
stop_of (suc n) = Some (reason (suc n))

stop_back : (r : Option Refusal) → stop_of (stop_number r) ≡ r
stop_back None = refl
stop_back (Some r) = search rules

pub stop-once : (r s : Option Refusal) → stop_number r ≡ stop_number s → r ≡ s
stop-once r s e = sym (stop_back r) ∙ ap stop_of e ∙ stop_back s

pub turn-once :
    {count : ℕ} {held kept rest : List ℕ} {before after later : Totals} {stop other through far left remaining : ℕ}
    → CountsTurn count held kept before after stop through left
    → CountsTurn count held rest before later other far remaining
    → (after ≡ later) × (kept ≡ rest) × (stop ≡ other) × (through ≡ far) × (left ≡ remaining)
turn-once {count} {held} {kept} {rest} {before} {after} {later} {stop} {other} {through} {far} {left} {remaining} T U = cases (dec_le count (length held))
  where
    cases : Dec (count ≤ length held)
        → (after ≡ later) × (kept ≡ rest) × (stop ≡ other) × (through ≡ far) × (left ≡ remaining)
    cases (yes h) =
        let (R, K) = T.there h in
        let (S, L) = U.there h in
        let (a, s, t) = counts_once R S in
        let (k, l) = keeps-once K (rw (sym t) at L) in
        (a, k, s, t, l)
    cases (no m) =
        let (a, b, c, d, f) = T.missing m in
        let (p, q, r, s, t) = U.missing m in
        (a ∙ sym p, b ∙ sym q, c ∙ sym r, d ∙ sym s, f ∙ sym t)

-- a stop has a number, which is not 0
abbrev stop_in : Standing Record → ℕ
stop_in ended = 1
stop_in (stopped n) = n
stop_in (whole r) = 1

stop_above : (left : List ℕ) → 1 ≤ stop_in (standing left)
unfolding standing
stop_above [] = lit≤ tt
stop_above (a ∷ []) = lit≤ tt
stop_above (a ∷ b ∷ rest) = go (is_old_mark a b) (leb old_length (2 + length rest)) (is_new_mark a b) (leb new_length (2 + length rest))
  where
    go : (p q r s : Bool) → 1 ≤ stop_in (tested p q r s rest)
    go true true r s = lit≤ tt
    go true false r s = lit≤ tt
    go false q true true = lit≤ tt
    go false q true false = lit≤ tt
    go false q false s = lit≤ tt

in_piece_lem : (last : Bool) (s : Standing Record) → 1 ≤ stop_in s → 1 ≤ stop_in (in_piece last s)
in_piece_lem last ended h = h
in_piece_lem true (stopped n) h = h
in_piece_lem false (stopped n) h = cases (eqb n 10)
  where
    cases : (b : Bool) → 1 ≤ stop_in (cond b ended (stopped n))
    cases true = lit≤ tt
    cases false = h
in_piece_lem last (whole r) h = h

piece_above : (last : Bool) (left : List ℕ) {n : ℕ} → in_piece last (standing left) ≡ stopped n → 1 ≤ n
piece_above last left e = rw e at (in_piece_lem last (standing left) (stop_above left))

-- how a run ended, with its number and without
came_in :
    (last : Bool) (fuel : ℕ) (previous : Option ℕ) (offset : ℕ) (left : List ℕ)
    → let c = run_in came last fuel previous offset left in
    let e = run_in ending last fuel previous offset left in
    (c.offset ≡ e.offset) × (e.stopped ≡ not (eqb c.stop 0))
unfolding run_in
came_in last zero previous offset left = (refl, refl)
came_in last (suc fuel) previous offset left =
    cases (in_piece last (standing left)) refl
    (λ r. came_in last fuel (previous_after previous r.number) (offset + record_length r) (drop (record_length r) left))
  where
    later : {A : Type 0} → Telling A → Record → A
    later t r = run_in t last fuel (previous_after previous r.number) (offset + record_length r) (drop (record_length r) left)

    cases : (s : Standing Record)
        → in_piece last (standing left) ≡ s
        → ((r : Record) → ((later came r).offset ≡ (later ending r).offset) × ((later ending r).stopped ≡ not (eqb (later came r).stop 0)))
        → let c = run_at came last previous offset (later came) s in
        let e = run_at ending last previous offset (later ending) s in
        (c.offset ≡ e.offset) × (e.stopped ≡ not (eqb c.stop 0))
    cases ended q tail = (refl, refl)
    cases (stopped n) q tail = (refl, let l = piece_above last left q in ap not (sym (ne_eqb n 0 (λ z. omega (arith, l, z)))))
    cases (whole r) q tail = tail r

pub came-ended :
    (last : Bool) (previous : Option ℕ) (offset : ℕ) (left : List ℕ)
    → let c = run_from came last previous offset left in
    let e = run_from ending last previous offset left in
    (c.offset ≡ e.offset) × (e.stopped ≡ not (eqb c.stop 0))
came-ended last previous offset left = came_in last (length left) previous offset left

-- a run came no farther than its bytes; and where more may follow and it did not stop, it left less than a record
module _ {last : Bool} {bytes : List ℕ} {before after : Totals} {stop through : ℕ} (R : CountsRun last bytes before after stop through) where
  pub counted_near : through ≤ length bytes
  counted_near =
      let e = ap (λ (c : Came). c.offset) (R.ended None 0) ∙ (came-ended last None 0 bytes).0 in
      omega (arith, e, end_near last None 0 bytes)

pub counted_left :
    {bytes : List ℕ} {before after : Totals} {through : ℕ} → CountsRun false bytes before after 0 through → length bytes < through + new_length
counted_left {bytes} R =
    let c = came-ended false None 0 bytes in
    let e = ap (λ (c : Came). c.offset) (R.ended None 0) ∙ c.0 in
    let s = c.1 ∙ ap (λ (c : Came). not (eqb c.stop 0)) (sym (R.ended None 0)) in
    omega (arith, e, left_short None 0 bytes s)

-- a turn over bytes that are held: what it came through and what it left are all of them, and unless it stopped it left less than a record
pub turn_left :
    {count : ℕ} {held kept : List ℕ} {before after : Totals} {stop through left : ℕ}
    → CountsTurn count held kept before after stop through left
    → count ≤ length held
    → (through + left ≡ count) × (stop ≡ 0 → left < new_length)
turn_left {count} {held} {kept} {before} {after} {stop} {through} {left} T h =
    let (R, K) = T.there h in
    let long = length-take-le count held h in
    let near : through ≤ count = omega (arith, counted_near R, long) in
    let rest = (K.there (record { ordered = near; there = h })).1 in
    (omega (arith, rest, near), λ e. omega (arith, counted_left (rw e at R), long, rest))
