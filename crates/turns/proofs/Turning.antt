-- A turn is the run over its bytes, and what that did not come through kept; a run that has no room comes through nothing, so that all is kept as
-- it was.
-- Assumes nothing.
use mathlib.Core.Path.{◌≡◌, ap, ◌∙◌}
use mathlib.Core.Bool.{Bool, false}
use mathlib.Core.List.{List, ◌++◌}
use Prim.Native.Nat.{ℕ, ◌+◌, ◌-◌, ◌≤◌, ◌<◌, ◌^◌}
use native.Mathlib.Nat.{zero-add, add-zero}
use native.Mathlib.Omega.{arith}
use lib.ListN.{length, take, drop, take-append-drop}
use lib.Seq.{length-take-le}
use Rattle.std.specs.Prelude.{Option}
use Rattle.texts.specs.Buffers.{put}
use Rattle.pieces.specs.Pieces.{Keeps}
use Rattle.run.specs.declared.kinds.Outcome.{Outcome}
use Rattle.run.specs.Runs.{Room, RunRule}
use Rattle.run.proofs.Decided.{room-decided, run_near}
use Rattle.turns.specs.declared.kinds.Turned.{Turned}
use Rattle.turns.specs.Turns.{TurnRoom, TurnRule}
use Rattle.turns.proofs.Decided.{turned_same}

-- no run comes to an offset that 64 bits don't hold
pub run-far :
    {last : Bool} {previous : Option ℕ} {offset : ℕ} {bytes before after : List ℕ} {r : Outcome}
    → RunRule last previous offset bytes before after r
    → offset < 2 ^ 64
    → offset + r.through < 2 ^ 64
run-far {offset = offset} {bytes} {before} {r = r} R h = cases (room-decided offset (length bytes) (length before))
  where
    cases : Dec (Room offset (length bytes) (length before)) → offset + r.through < 2 ^ 64
    cases (yes room) = omega (arith, run_near (R.room room), room.offsets)
    cases (no none) = let e : r.through ≡ 0 = ap (λ (o : Outcome). o.through) (R.none none).1 in omega (arith, e)

module _ (held : List ℕ) (count : ℕ) (there : count ≤ length held) where
  pub long-front : length (take count held) ≡ count
  long-front = length-take-le count held there

  room_over : (offset buffer : ℕ) → TurnRoom offset count (length held) buffer → Room offset (length (take count held)) buffer
  room_over offset buffer T = record { lines = omega (arith, T.text.lines, long-front); offsets = omega (arith, T.text.offsets, long-front) }

  room_back : (offset buffer : ℕ) → Room offset (length (take count held)) buffer → TurnRoom offset count (length held) buffer
  room_back offset buffer R = record {
    bytes = there;
    text = record { lines = omega (arith, R.lines, long-front); offsets = omega (arith, R.offsets, long-front) };
  }

  -- all bytes kept where they are
  all-kept : put (drop 0 (take count held)) held 0 ≡ held
  unfolding put
  all-kept =
      (λ i. take count held ++ drop ((zero-add (length (take count held)) ∙ long-front) i) held) ∙ take-append-drop count held

  pub turn_done :
      {previous : Option ℕ} {offset : ℕ} {before after kept : List ℕ} {r : Turned}
      → RunRule false previous offset (take count held) before after r.outcome
      → Keeps r.outcome.through count held kept r.left
      → r.next ≡ offset + r.outcome.through
      → TurnRule previous offset count held before after kept r
  turn_done {previous} {offset} {before} {after} {kept} {r} R K n = record {
    room = λ T. record { ran = R.room (room_over offset (length before) T); keeps = K; next = n };
    none = λ m.
        let (same, outcome) = R.none (λ room. m (room_back offset (length before) room)) in
        let nothing = ap (λ (o : Outcome). o.through) outcome in
        let k = (rw nothing at K).there (record { ordered = omega arith; there = there }) in
        let whole : count - 0 ≡ count = omega arith in
        (same, k.0 ∙ all-kept, turned_same outcome (k.1 ∙ whole) (n ∙ ap (λ (t : ℕ). offset + t) nothing ∙ add-zero offset));
  }
