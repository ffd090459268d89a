-- The turns over any pieces of a capture, where what is told is a list: what a turn tells, and how it ended, is what they are made of.
-- Assumes nothing.
use mathlib.Core.Path.{◌≡◌, refl, sym, ap, ◌∙◌}
use mathlib.Core.Bool.{Bool, false, cond}
use mathlib.Core.List.{List, [], ◌∷◌, ◌++◌, append_assoc, append-nil}
use Prim.Native.Nat.{ℕ, zero, suc, ◌+◌, ◌-◌}
use lib.ListN.{length, drop}
use Rattle.std.specs.Prelude.{Option}
use Rattle.sequence.specs.Sequence.{previous_after}
use Rattle.records.specs.Records.{Record, record_length, Standing, ended, stopped, whole, standing, in_piece}
use Rattle.records.specs.Capture.{Telling, listed, run_at, run_in, run_from, Ending, ending}
use Rattle.pieces.specs.Pieces.{going_on, turns_from}

-- what goes on after a run: nothing where it stopped
abbrev pub goes_on : {X : Type 0} → (Option ℕ → ℕ → List X) → Ending → List X
goes_on on e = cond e.stopped [] (on e.previous e.offset)

module _ {X : Type 0} (ofRecord : Option ℕ → Record → List X) (ofStop : ℕ → Option ℕ → ℕ → List X) where
  abbrev t : Telling (List X)
  t = listed ofRecord ofStop

  run_goes :
      (on : Option ℕ → ℕ → List X) (last : Bool) (fuel : ℕ) (previous : Option ℕ) (offset : ℕ) (left : List ℕ)
      → run_in (going_on t on) last fuel previous offset left
      ≡ run_in t last fuel previous offset left ++ goes_on on (run_in ending last fuel previous offset left)
  unfolding run_in
  run_goes on last zero previous offset left = refl
  run_goes on last (suc fuel) previous offset left =
      cases (in_piece last (standing left))
      (λ r. run_goes on last fuel (previous_after previous r.number) (offset + record_length r) (drop (record_length r) left))
    where
      later : {A : Type 0} → Telling A → Record → A
      later u r = run_in u last fuel (previous_after previous r.number) (offset + record_length r) (drop (record_length r) left)

      both : Telling (List X)
      both = going_on t on

      cases : (s : Standing Record)
          → ((r : Record) → later both r ≡ later t r ++ goes_on on (later ending r))
          → run_at both last previous offset (later both) s
          ≡ run_at t last previous offset (later t) s ++ goes_on on (run_at ending last previous offset (later ending) s)
      cases ended tail = refl
      cases (stopped n) tail = sym (append-nil (ofStop n previous offset))
      cases (whole r) tail =
          let told = ofRecord previous r in
          ap (λ (l : List X). told ++ l) (tail r) ∙ sym (append_assoc told (later t r) (goes_on on (later ending r)))

  -- a turn: what it tells, and where it did not stop the turns after it, from where it ended
  pub turns_go :
      (previous : Option ℕ) (offset : ℕ) (held piece : List ℕ) (pieces : List (List ℕ))
      → let bytes = held ++ piece in
      turns_from t previous offset held (piece ∷ pieces)
      ≡ run_from t false previous offset bytes
      ++ goes_on (λ number next. turns_from t number next (drop (next - offset) bytes) pieces) (run_from ending false previous offset bytes)
  unfolding turns_from
  turns_go previous offset held piece pieces =
      let bytes = held ++ piece in
      run_goes (λ number next. turns_from t number next (drop (next - offset) bytes) pieces) false (length bytes) previous offset bytes
