-- Losses add up: the steps of records that each follow with a loss lead from the first number to the last.
-- Assumes nothing.
use Rattle.std.proofs.Common.{◌≡◌, ℕ, suc, ◌+◌, ◌-◌, ◌%◌, ◌^◌, ◌<◌, ◌≤◌, Bool, true, false, cond, eqb, leb, List, [], ◌∷◌, Some, get_or, sym, refl, ap, ◌∙◌, arith}
use native.Mathlib.Nat.{mod-add-mod, add-mod-mod, add-mod_right}
use borrow.Author.Tests.{eqb-false}
use Rattle.sequence.specs.declared.kinds.Follows.{Follows}
use Rattle.sequence.specs.declared.kinds.Follows.TheVariants.{Lost, Repeat, Late}
use Rattle.sequence.specs.Sequence.{step_from, told_by, kept, follows_all, losses, steps_of, last_of}

never : {B : Type 0} → ◌≡◌ {A = ℕ} 0 1 → B
never e = let z : ⊥ = omega arith in absurd z

-- a step that tells a loss is one more than the records lost
lost_step : (step n : ℕ) → told_by step ≡ Lost n → step ≡ n + 1
lost_step step n e = cases (eqb step 0) (leb step 32768) refl e
  where
    cases : (none half : Bool) → eqb step 0 ≡ none → cond none Repeat (cond half (Lost (step - 1)) Late) ≡ Lost n → step ≡ n + 1
    cases true half p e = never (cc)
    cases false true p e = let l : step - 1 ≡ n = cc in omega (arith, eqb-false step 0 p)
    cases false false p e = never (cc)

-- a step and more steps after it: around the circle, or not
around : (m a b c k s : ℕ) → b ≤ m → (b + (m - a)) % m ≡ k → s % m ≡ (c + (m - b)) % m → (k + s) % m ≡ (c + (m - a)) % m
around m a b c k s h e f =
    let first = b + (m - a) in
    let rest = c + (m - b) in
    let all : first + rest ≡ c + (m - a) + m = omega arith in
    ap (λ (j : ℕ). (j + s) % m) (sym e)
    ∙ mod-add-mod first m s
    ∙ sym (add-mod-mod first s m)
    ∙ ap (λ (j : ℕ). (first + j) % m) f
    ∙ add-mod-mod first rest m
    ∙ ap (λ (j : ℕ). j % m) all
    ∙ add-mod_right (c + (m - a)) m

-- all of them are numbers of 16 bits
abbrev pub Numbers : List ℕ → Type 0
Numbers numbers = (i : ℕ) → get_or numbers i 0 < 2 ^ 16

pub losses-add_up :
    (first : ℕ) (numbers lost : List ℕ)
    → first < 2 ^ 16
    → Numbers numbers
    → follows_all (Some first) numbers ≡ losses lost
    → steps_of lost % 2 ^ 16 ≡ step_from first (last_of first numbers)
unfolding follows_all
losses-add_up first [] [] h l e = omega arith
losses-add_up first [] (k ∷ lost) h l e = never (cc)
losses-add_up first (n ∷ numbers) [] h l e = never (cc)
losses-add_up first (n ∷ numbers) (k ∷ lost) h l e =
    let one : told_by (step_from first n) ≡ Lost k = cc in
    let step = lost_step (step_from first n) k one in
    let rest : follows_all (kept (Some first) (Some n) (told_by (step_from first n))) numbers ≡ losses lost = cc in
    let tail = losses-add_up n numbers lost (l 0) (λ i. l (suc i)) (ap (λ (f : Follows). follows_all (kept (Some first) (Some n) f) numbers) (sym one) ∙ rest) in
    around (2 ^ 16) first n (last_of n numbers) (k + 1) (steps_of lost) (omega (arith, l 0)) step tail
