-- What `array::from_fn` made, by a closure whose calls leave it as it was.
-- Assumes nothing.
use Rattle.std.proofs.Common.{◌≡◌, ℕ, zero, suc, ◌+◌, ◌≤◌, ◌<◌, Bool, true, false, eqb, List, get_or, refl, sym, ap, ◌∙◌, subst, arith}
use Rattle.std.specs.Array.{IsFromFnResultFrom, IsFromFnResult}
use Rattle.std.specs.Fn.{Called}
use denote.Param.Members.{Mut}
use borrow.Author.Tests.{eqb-true, eqb-false}

module _ {F B : Type 0} (g : Mut F (ℕ × Unit {0}) B) (v : ℕ → B) (f : F) (step : (i : ℕ) (y : B) (q : F) → Called g f (i, tt) y q → (y ≡ v i) × (q ≡ f)) where
  from_on : (ys : List B) (i n : ℕ) → IsFromFnResultFrom g f ys i n → (k : ℕ) (d : B) → i ≤ k → k < i + n → get_or ys k d ≡ v k
  from_on ys i zero made k d lo hi = let e : ⊥ = omega arith in absurd e
  from_on ys i (suc n) (q, y, e, called, rest) k d lo hi =
      let told = step i y q called in
      let later = subst (λ (s : F). IsFromFnResultFrom g s ys (i + 1) n) told.1 rest in
      cases (eqb k i) refl (e.1 d ∙ told.0) (λ l. from_on ys (i + 1) n later k d l (omega arith))
    where
      cases : (b : Bool) → eqb k i ≡ b → get_or ys i d ≡ v i → (i + 1 ≤ k → get_or ys k d ≡ v k) → get_or ys k d ≡ v k
      cases true t here on = let same = eqb-true k i t in ap (λ (j : ℕ). get_or ys j d) same ∙ here ∙ ap v (sym same)
      cases false t here on = let ne = eqb-false k i t in on (omega arith)

  pub made_at : (ys : List B) (n : ℕ) → IsFromFnResult g f ys n → (k : ℕ) (d : B) → k < n → get_or ys k d ≡ v k
  made_at ys n made k d h = from_on ys 0 n made.each k d (omega arith) (omega arith)
