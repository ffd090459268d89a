-- Whether there is room can be told; so two outcomes that the promise of a run allows are equal, with the buffer that they leave.
-- Assumes nothing.
use mathlib.Core.Path.{◌≡◌, sym, ap, ◌∙◌}
use mathlib.Core.Bool.{Bool, true, false}
use mathlib.Core.List.{List}
use Prim.Native.Nat.{ℕ, zero, suc, ◌+◌, ◌≤◌, ◌<◌, ◌^◌}
use native.Mathlib.Omega.{arith}
use lib.IntN.{ℤ}
use lib.ListN.{length, drop, length-append}
use Rattle.std.specs.Prelude.{Option}
use Rattle.std.proofs.Math.Decide.{dec_le, dec_lt}
use Rattle.golay.specs.Answers.{Answer}
use Rattle.lines.specs.Lines.{longest}
use Rattle.sequence.specs.Sequence.{previous_after}
use Rattle.records.specs.Records.{Record, new_length, record_length, Standing, ended, stopped, whole, standing, in_piece}
use Rattle.records.specs.Capture.{Telling, run_at, run_in, Ending, ending}
use Rattle.records.proofs.Running.{end_near, left_short}
use Rattle.decoding.proofs.Decoding.{a_decoder}
use Rattle.run.specs.declared.kinds.Outcome.{Outcome}
use Rattle.run.specs.Output.{lines}
use Rattle.run.specs.Runs.{Room, Runs, unrun, RunRule}

pub room-decided : (offset n buffer : ℕ) → Dec (Room offset n buffer)
room-decided offset n buffer = cases (dec_le (n + longest) buffer) (dec_lt (offset + n) (2 ^ 64))
  where
    cases : Dec (n + longest ≤ buffer) → Dec (offset + n < 2 ^ 64) → Dec (Room offset n buffer)
    cases (yes l) (yes o) = yes (record { lines = l; offsets = o })
    cases (yes l) (no o) = no (λ R. o R.offsets)
    cases (no l) o = no (λ R. l R.lines)

-- an outcome by its fields
outcome-same : {r s : Outcome} → r.put ≡ s.put → r.stopped ≡ s.stopped → r.through ≡ s.through → r.previous ≡ s.previous → r ≡ s
outcome-same p q t n = λ i. record { put = p i; stopped = q i; through = t i; previous = n i }

pub runs_once :
    {last : Bool} {previous : Option ℕ} {offset : ℕ} {bytes before after later : List ℕ} {r s : Outcome}
    → Runs last previous offset bytes before after r
    → Runs last previous offset bytes before later s
    → (after ≡ later) × (r ≡ s)
runs_once {offset = offset} {r = r} {s} R S =
    let p = R.text a_decoder.0 a_decoder.1 in
    let q = S.text a_decoder.0 a_decoder.1 in
    let e = R.ended ∙ sym S.ended in
    let far : offset + r.through ≡ offset + s.through = ap (λ (e : Ending). e.offset) e in
    let through : r.through ≡ s.through = omega (arith, far) in (
      p.buffer ∙ sym q.buffer,
      outcome-same (p.place ∙ sym q.place) (ap (λ (e : Ending). e.stopped) e) through (ap (λ (e : Ending). e.previous) e),
    )

pub run-once :
    {last : Bool} {previous : Option ℕ} {offset : ℕ} {bytes before after later : List ℕ} {r s : Outcome}
    → RunRule last previous offset bytes before after r
    → RunRule last previous offset bytes before later s
    → (after ≡ later) × (r ≡ s)
run-once {offset = offset} {bytes} {before} {after} {later} {r} {s} R S = cases (room-decided offset (length bytes) (length before))
  where
    cases : Dec (Room offset (length bytes) (length before)) → (after ≡ later) × (r ≡ s)
    cases (yes room) = runs_once (R.room room) (S.room room)
    cases (no none) = let (a, p) = R.none none in let (b, q) = S.none none in (a ∙ sym b, p ∙ sym q)

-- a run that stops tells it: so no run that has room ends as one that has none
module _ (decode : List ℤ → Answer (ℕ × ℕ)) (last : Bool) where
  stop-told :
      (fuel : ℕ) (previous : Option ℕ) (offset : ℕ) (left : List ℕ)
      → (run_in ending last fuel previous offset left).stopped ≡ true
      → 1 ≤ length (run_in (lines decode) last fuel previous offset left)
  unfolding run_in
  stop-told zero previous offset left e = let z : ◌≡◌ {A = ℕ} 0 1 = cc in absurd (omega arith)
  stop-told (suc fuel) previous offset left e =
      cases (in_piece last (standing left)) e
      (λ r. stop-told fuel (previous_after previous r.number) (offset + record_length r) (drop (record_length r) left))
    where
      later : {A : Type 0} → Telling A → Record → A
      later t r = run_in t last fuel (previous_after previous r.number) (offset + record_length r) (drop (record_length r) left)

      cases :
          (s : Standing Record)
          → (run_at ending last previous offset (later ending) s).stopped ≡ true
          → ((r : Record) → (later ending r).stopped ≡ true → 1 ≤ length (later (lines decode) r))
          → 1 ≤ length (run_at (lines decode) last previous offset (later (lines decode)) s)
      cases ended e tail = let z : ◌≡◌ {A = ℕ} 0 1 = cc in absurd (omega arith)
      cases (stopped n) e tail = simp length-append (omega arith)
      cases (whole r) e tail = simp length-append (omega (arith, tail r e))

pub never_unrun :
    {last : Bool} {previous number : Option ℕ} {offset : ℕ} {bytes before after : List ℕ} {r : Outcome}
    → Runs last previous offset bytes before after r
    → r ≡ unrun number
    → ⊥
never_unrun {last} {previous} {offset = offset} {bytes} R e =
    let p = R.text a_decoder.0 a_decoder.1 in
    let stops = ap (λ (e : Ending). e.stopped) (sym R.ended) ∙ ap (λ (o : Outcome). o.stopped) e in
    let s = stop-told a_decoder.0 last (length bytes) previous offset bytes stops in
    omega (arith, p.place, ap (λ (o : Outcome). o.put) e, s)

-- the text of a run fits its buffer
pub run_fits :
    {last : Bool} {previous : Option ℕ} {offset : ℕ} {bytes before after : List ℕ} {r : Outcome}
    → Runs last previous offset bytes before after r
    → r.put ≤ length before
run_fits R = let p = R.text a_decoder.0 a_decoder.1 in omega (arith, p.room, p.place)

-- a run came no farther than its bytes; and where more may follow and it did not stop, it left less than a record
pub run_near :
    {last : Bool} {previous : Option ℕ} {offset : ℕ} {bytes before after : List ℕ} {r : Outcome}
    → Runs last previous offset bytes before after r
    → r.through ≤ length bytes
run_near {last} {previous} {offset} {bytes} R = omega (arith, ap (λ (e : Ending). e.offset) R.ended, end_near last previous offset bytes)

pub run_left :
    {previous : Option ℕ} {offset : ℕ} {bytes before after : List ℕ} {r : Outcome}
    → Runs false previous offset bytes before after r
    → r.stopped ≡ false
    → length bytes < r.through + new_length
run_left {previous} {offset} {bytes} R e =
    let short = left_short previous offset bytes (ap (λ (e : Ending). e.stopped) (sym R.ended) ∙ e) in
    omega (arith, ap (λ (e : Ending). e.offset) R.ended, short)
