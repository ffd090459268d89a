-- What the candidate call hands back: two returns that its promise allows are equal.
-- Assumes nothing.
use mathlib.Core.Path.{◌≡◌, sym, ap, ◌∙◌}
use mathlib.Core.List.{List}
use Prim.Native.Nat.{ℕ}
use Rattle.candidates.proofs.Decided.{candidates-once, slots-once}
use Rattle.hands.specs.Hands.{returned}
use Rattle.onwords.specs.Outputs.{HandsBackCandidates}

pub hands_candidates_decided :
    {word : ℕ} {before after later : List ℕ} {status other : ℕ}
    → HandsBackCandidates word before after status
    → HandsBackCandidates word before later other
    → (status ≡ other) × (after ≡ later)
hands_candidates_decided p q =
    (p.status_is ∙ ap returned (candidates-once p.writes q.writes) ∙ sym q.status_is, slots-once p.writes q.writes)
