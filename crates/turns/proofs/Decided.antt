-- Whether there is room can be told; so two outcomes that the promise of a turn allows are equal, with the buffers that they leave.
-- Assumes nothing.
use mathlib.Core.Path.{◌≡◌, sym, ap, ◌∙◌}
use mathlib.Core.List.{List}
use Prim.Native.Nat.{ℕ, ◌+◌, ◌≤◌}
use lib.ListN.{length}
use Rattle.std.specs.Prelude.{Option}
use Rattle.std.proofs.Math.Decide.{dec_le}
use Rattle.pieces.proofs.Pieces.{keeps-once}
use Rattle.run.specs.declared.kinds.Outcome.{Outcome}
use Rattle.run.specs.Runs.{Room}
use Rattle.run.proofs.Decided.{room-decided, runs_once}
use Rattle.turns.specs.declared.kinds.Turned.{Turned}
use Rattle.turns.specs.Turns.{TurnRoom, TurnRule}

turn-decided : (offset count held buffer : ℕ) → Dec (TurnRoom offset count held buffer)
turn-decided offset count held buffer = cases (dec_le count held) (room-decided offset count buffer)
  where
    cases : Dec (count ≤ held) → Dec (Room offset count buffer) → Dec (TurnRoom offset count held buffer)
    cases (yes h) (yes R) = yes (record { bytes = h; text = R })
    cases (yes h) (no R) = no (λ T. R T.text)
    cases (no h) R = no (λ T. h T.bytes)

pub turned_same : {r s : Turned} → r.outcome ≡ s.outcome → r.left ≡ s.left → r.next ≡ s.next → r ≡ s
turned_same p q e = λ i. record { outcome = p i; left = q i; next = e i }

pub turn-once :
    {previous : Option ℕ} {offset count : ℕ} {held before after later kept rest : List ℕ} {r s : Turned}
    → TurnRule previous offset count held before after kept r
    → TurnRule previous offset count held before later rest s
    → (after ≡ later) × (kept ≡ rest) × (r ≡ s)
turn-once {offset = offset} {count} {held} {before} {after} {later} {kept} {rest} {r} {s} R S =
    cases (turn-decided offset count (length held) (length before))
  where
    cases : Dec (TurnRoom offset count (length held) (length before)) → (after ≡ later) × (kept ≡ rest) × (r ≡ s)
    cases (yes room) =
        let T = R.room room in
        let U = S.room room in
        let (e, o) = runs_once T.ran U.ran in
        let through = ap (λ (o : Outcome). o.through) o in
        let (k, l) = keeps-once T.keeps (rw (sym through) at U.keeps) in
        (e, k, turned_same o l (T.next ∙ ap (λ (n : ℕ). offset + n) through ∙ sym U.next))
    cases (no none) = let (a, b, p) = R.none none in let (c, d, q) = S.none none in (a ∙ sym c, b ∙ sym d, p ∙ sym q)
