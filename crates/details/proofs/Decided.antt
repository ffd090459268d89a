-- Two answers that the promise of `class_best` allows for the same sums agree in the two largest, and in the message of the largest where it
-- leads. Where it does not, nothing depends on which of the messages is named: a tie is refused, and a figure has no message.
-- Assumes nothing.
use mathlib.Core.Path.{◌≡◌, sym, ◌∙◌}
use mathlib.Core.Logic.{◌≢◌}
use Prim.Native.Nat.{ℕ}
use native.Mathlib.Decide.{ℕ_discrete}
use lib.IntN.{ℤ}
use lib.Signed.{◌≤ℤ◌, ◌<ℤ◌}
use Rattle.signed.proofs.Parts.{ints}
use Rattle.contest.specs.Largest.{Next}
use Rattle.contest.specs.declared.Keeper.{Keeper}
use Rattle.contest.proofs.Span.{behind, next-value}
use Rattle.details.specs.Details.{Tops}

module _ {f : ℕ → ℤ} {i j : ℕ} (t u : Keeper) (A : Tops f i j t) (B : Tops f i j u) where
  pub best-once : t.best ≡ u.best
  best-once =
      let p = A.best in
      let q = B.best in
      let g = A.largest.most u.at B.largest.from B.largest.below in
      let h = B.largest.most t.at A.largest.from A.largest.below in
      omega ints

  -- at two different messages the second reaches the largest
  reached : t.at ≢ u.at → t.best ≤ℤ t.second
  reached d =
      let e = best-once in
      let p = B.best in
      let q = A.second in
      let g = A.next.most u.at B.largest.from B.largest.below (λ e. d (sym e)) in
      omega ints

  pub at_once : t.second <ℤ t.best → t.at ≡ u.at
  at_once h = go (ℕ_discrete t.at u.at)
    where
      go : Dec (t.at ≡ u.at) → t.at ≡ u.at
      go (yes e) = e
      go (no d) = let g = reached d in absurd (omega ints)

pub second-once : {f : ℕ → ℤ} {i j : ℕ} (t u : Keeper) → Tops f i j t → Tops f i j u → t.second ≡ u.second
second-once {f} {i} {j} t u A B = go (ℕ_discrete t.at u.at)
  where
    go : Dec (t.at ≡ u.at) → t.second ≡ u.second
    go (yes e) =
        let N : Next f i j t.at B.runner = rw e B.next in
        A.second ∙ next-value A.next N ∙ sym B.second
    go (no d) =
        let e = best-once t u A B in
        let g = reached t u A B d in
        let h = reached u t B A (λ e. d (sym e)) in
        let p = behind A in
        let q = behind B in
        omega ints
