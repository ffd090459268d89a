-- How a choice and a part come about: from two answers, from a buffer that holds no reading, and from the chosen receiver's reading.
use mathlib.Core.Path.{◌≡◌, refl, ◌∙◌}
use mathlib.Core.Bool.{Bool, true, false, cond, ◌&&◌}
use mathlib.Core.List.{List}
use Prim.Native.Nat.{ℕ, ◌<◌}
use native.Mathlib.Omega.{arith}
use lib.Dec.{lit<}
use lib.IntN.{ℤ}
use denote.Ref.{Bor}
use Rattle.golay.specs.Answers.{Answer}
use Rattle.buffers.specs.Buffers.{has_reading, reading_at, LendsReading}
use Rattle.buffers.proofs.Holding.{begins-held}
use Rattle.soft.specs.declared.kinds.Soft.{Soft}
use Rattle.soft.specs.Calls.{SoftRule}
use Rattle.soft.proofs.Decided.{soft_exists}
use Rattle.choices.specs.declared.kinds.Choice.{Choice}
use Rattle.choices.specs.declared.kinds.Choice.TheVariants.{First, Second}
use Rattle.choices.specs.Choices.{receiver, reserve_of, preferred}
use Rattle.receivers.specs.Calls.{both_have, Chooses, LendsBetter}

module _ (first second : List ℤ) (number : ℕ) where
  pub no_pair : both_have first second number ≡ false → Chooses first second number 0
  no_pair e =
      let a = soft_exists (reading_at first number) in
      let b = soft_exists (reading_at second number) in
      record { one = a.0; other = b.0; one-allowed = a.1; other-allowed = b.1; is = simp e }

  pub a_pair :
      has_reading first number ≡ true
      → has_reading second number ≡ true
      → (a b : Answer Soft)
      → SoftRule (reading_at first number) a
      → SoftRule (reading_at second number) b
      → {choice : ℕ}
      → choice ≡ preferred (reserve_of a) (reserve_of b)
      → Chooses first second number choice
  a_pair e f a b r s is = record { one = a; other = b; one-allowed = r; other-allowed = s; is = simp (e, f) is }

-- a receiver is chosen only where both buffers hold the reading
pub pair_held : {first second : List ℤ} {number choice : ℕ} → Chooses first second number choice → 0 < choice → (has_reading first number ≡ true) × (has_reading second number ≡ true)
pair_held {first} {second} {number} {choice} p h = go (has_reading first number) (has_reading second number) p.is
  where
    go : (a b : Bool) → choice ≡ cond (a && b) (preferred (reserve_of p.one) (reserve_of p.other)) 0 → (a ≡ true) × (b ≡ true)
    go true true e = (refl, refl)
    go true false e = absurd (omega arith)
    go false b e = absurd (omega arith)

module _ {first second part : Bor (List ℤ)} {number : ℕ} {choice : Choice} (p : Chooses first.now second.now number (receiver choice)) where
  pub lends_first : choice ≡ First → LendsReading first number part → LendsBetter first second number part
  lends_first e l =
      let q = rw e at p in
      record { better = record { choice = 1; chooses = q; is = l.contents }; begins = l.begins ∙ begins-held _ _ (pair_held q (lit< tt)).0 first.ref_ptr }

  pub lends_second : choice ≡ Second → LendsReading second number part → LendsBetter first second number part
  lends_second e l =
      let q = rw e at p in
      record { better = record { choice = 2; chooses = q; is = l.contents }; begins = l.begins ∙ begins-held _ _ (pair_held q (lit< tt)).1 second.ref_ptr }
