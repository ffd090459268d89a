-- The reserve is sharp: any change that adds up to less than it leaves the word accepted, and some change that adds up to it does not.
use mathlib.Core.Path.{◌≡◌, ◌∙◌}
use mathlib.Core.Logic.{◌≢◌}
use mathlib.Core.Bool.{Bool}
use mathlib.Core.List.{List}
use Prim.Native.Nat.{ℕ, ◌+◌, ◌-◌, ◌≤◌, ◌<◌}
use native.Mathlib.Omega.{arith}
use native.Mathlib.Decide.{ℕ_discrete}
use lib.IntN.{ℤ}
use Rattle.signed.proofs.Parts.{ints}
use Rattle.contest.specs.Words.{Family}
use Rattle.contest.specs.Readings.{Reading, scores, change}
use Rattle.contest.specs.Largest.{Largest}
use Rattle.contest.specs.Answers.{Accepted, Answer, accepted, tied, Answers}
use Rattle.contest.specs.Losses.{loss}
use Rattle.contest.proofs.Loss.{Aligned, align, shift}
use Rattle.contest.proofs.Decided.{at_level, accepted-largest, decided}
use Rattle.contest.proofs.Reserve.{margin, lead, reserve_positive}
use Rattle.contest.proofs.Weaken.{move, enough}

-- a word that loses less than every other by σ is accepted, with σ in reserve at least
module _ {B N n : ℕ} {word : ℕ → List Bool} (F : Family N n word) {ys : List ℤ} (Y : Reading B n ys) {m σ : ℕ} (known : m < N) (some : 0 < σ)
    (ahead : (k : ℕ) → k < N → k ≢ m → loss (word m) ys + σ ≤ loss (word k) ys) where
  alone : {k : ℕ} → Largest (scores word ys) 0 N k → k ≡ m
  alone {k} L = go (ℕ_discrete k m)
    where
      go : Dec (k ≡ m) → k ≡ m
      go (yes e) = e
      go (no d) =
          let g = L.most m (omega arith) known in
          absurd (omega (ints, ahead k L.below d, at_level F Y k L.below, at_level F Y m known))

  pub won : (ρ : ℕ) × (σ ≤ ρ) × Accepted N word ys m ρ
  won = go (decided F Y).0 (decided F Y).1
    where
      go : (p : Answer) → Answers N word ys p → (ρ : ℕ) × (σ ≤ ρ) × Accepted N word ys m ρ
      go (accepted k ρ) a =
          let c : Accepted N word ys m ρ = rw (alone (accepted-largest a)) at a in
          (ρ, omega (arith, margin F Y c, ahead c.runner c.next.below c.next.other), c)
      go tied t = absurd (t.different (omega (arith, alone t.one-largest, alone t.other-largest)))

module _ {B N n : ℕ} {word : ℕ → List Bool} (F : Family N n word) {xs : List ℤ} (X : Reading B n xs) {m ρ : ℕ} (a : Accepted N word xs m ρ) where
  aligned : {ys : List ℤ} → Reading B n ys → (k : ℕ) → k < N → Aligned (word m) (word k) xs ys
  aligned {ys} Y k h = align (word m) (word k) xs ys (F.long m a.known) (F.long k h) X.long Y.long

  pub safe : {ys : List ℤ} → Reading B n ys → change xs ys < ρ → (σ : ℕ) × (ρ - change xs ys ≤ σ) × Accepted N word ys m σ
  safe Y h =
      won F Y a.known (omega arith) (λ k y d. omega (arith, lead F X a k y d, shift (aligned Y k y)))

  pub sharp : (ys : List ℤ) × Reading B n ys × (change xs ys ≡ ρ) × ((σ : ℕ) → ¬ Accepted N word ys m σ)
  sharp =
      let al = aligned X a.runner a.next.below in
      let v = move B al ρ (omega (arith, enough al, margin F X a)) in
      let Y : Reading B n v.to = record { long = v.long ∙ X.long; range = v.range X.range } in (
        v.to,
        Y,
        v.by,
        λ σ b. omega (arith, lead F Y b a.runner a.next.below a.next.other, reserve_positive F Y b, margin F X a, v.kept, v.won),
      )
