-- What the tests of the quick decoder say of its answer to a reading with zeros.
-- Assumes nothing.
use mathlib.Core.Path.{refl, subst}
use mathlib.Core.Bool.{true, false}
use mathlib.Core.List.{List}
use Prim.Native.Nat.{ℕ, ◌≤◌, ◌<◌}
use native.Mathlib.Omega.{arith}
use lib.IntN.{ℤ}
use Rattle.golay.specs.Answers.{accepted, refused}
use Rattle.signs.specs.Fillings.{zeros, Filling}
use Rattle.decision.specs.Decision.{Decides}
use Rattle.decision.proofs.Decided.{decided-same, tied-alone}
use Rattle.quick.specs.Quick.{Settled, Settles, settled, unsettled, AllGive}

module _ {xs : List ℤ} where
  pub many_unsettled : 4 < zeros xs → Settles xs (refused 14)
  many_unsettled h = unsettled (λ c S. omega (arith, S.few))

  pub tied-unsettled : {word : ℕ} → Filling xs word → Decides word xs (refused 6) → Settles xs (refused 14)
  tied-unsettled {word} F p = unsettled (λ c S. tied-alone p (S.each word F))

  pub all_settled : {c : ℕ} → zeros xs ≤ 4 → AllGive c xs true → Settles xs (accepted c)
  all_settled h A = settled (record { few = h; each = A.all refl })

  pub not-all-unsettled : {c word : ℕ} → Filling xs word → Decides word xs (accepted c) → AllGive c xs false → Settles xs (refused 14)
  not-all-unsettled {c} {word} F p A = unsettled none
    where
      none : (d : ℕ) → Settled xs d → ⊥
      none d S =
          let e = decided-same (S.each word F) p in
          A.not-all refl (λ w G. subst (λ (k : ℕ). Decides w xs (accepted k)) e (S.each w G))
