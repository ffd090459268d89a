-- Two returns that the promise of `trial_distance` allows are equal, and so is what they leave.
-- Assumes nothing.
use mathlib.Core.Path.{◌≡◌}
use Prim.Native.Nat.{ℕ}
use Rattle.golay.specs.Calls.{distance_rule}
use Rattle.hands.specs.Hands.{HandsBack, itself}
use Rattle.hands.proofs.Hands.{hands_decided}

pub distance-decided :
    (a b before after later status other : ℕ)
    → HandsBack (distance_rule a b) itself before after status
    → HandsBack (distance_rule a b) itself before later other
    → (status ≡ other) × (after ≡ later)
distance-decided a b before after later status other = hands_decided
