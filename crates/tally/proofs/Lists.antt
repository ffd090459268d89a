-- What one more answer, or one more count, does to a count of answers, to their reserves, and to the sum and the least of these.
-- Assumes nothing.
use mathlib.Core.Path.{◌≡◌, refl, sym, ap, ◌∙◌}
use mathlib.Core.Logic.{◌⊎◌, inl, inr}
use mathlib.Core.Bool.{Bool, true, false, cond}
use mathlib.Core.List.{List, [], ◌∷◌, ◌++◌, append_assoc, append-nil}
use Prim.Native.Nat.{ℕ, zero, suc, ◌+◌, ◌≤◌, ◌<◌}
use native.Mathlib.Omega.{arith}
use lib.Dec.{eqb, ltb}
use lib.ListN.{length, get_or, set, replicate, length-append}
use borrow.Author.Tests.{eqb-true, eqb-false, ltb-true, ltb-false}
use Rattle.code.specs.Array.{total}
use Rattle.golay.specs.Answers.{Answer}
use Rattle.totals.specs.Totals.{smallest_with}
use Rattle.tally.specs.History.{how_many, reserve_in, reserves, Among, Smallest}

pub how_many_more :
    (test : Answer (ℕ × ℕ) → Bool) (answers : List (Answer (ℕ × ℕ))) (a : Answer (ℕ × ℕ))
    → how_many test (answers ++ (a ∷ [])) ≡ how_many test answers + cond (test a) 1 0
unfolding how_many
how_many_more test [] a = omega arith
how_many_more test (b ∷ answers) a = let e = how_many_more test answers a in omega (arith, e)

pub reserves_more : (answers : List (Answer (ℕ × ℕ))) (a : Answer (ℕ × ℕ)) → reserves (answers ++ (a ∷ [])) ≡ reserves answers ++ reserve_in a
unfolding reserves
reserves_more [] a = append-nil (reserve_in a)
reserves_more (b ∷ answers) a = ap (λ (ρs : List ℕ). reserve_in b ++ ρs) (reserves_more answers a) ∙ sym (append_assoc (reserve_in b) (reserves answers) (reserve_in a))

pub total_more : (ns : List ℕ) (n : ℕ) → total (ns ++ (n ∷ [])) ≡ total ns + n
total_more [] n = omega arith
total_more (k ∷ ns) n = let e = total_more ns n in omega (arith, e)

pub total-zeros : (n : ℕ) → total (replicate n 0) ≡ 0
total-zeros zero = refl
total-zeros (suc n) = let e = total-zeros n in omega (arith, e)

-- one count of a table raised
pub total_raised : (table : List ℕ) (m : ℕ) → m < length table → total (set table m (get_or table m 0 + 1)) ≡ total table + 1
total_raised [] m h = let e : ⊥ = omega arith in absurd e
total_raised (n ∷ table) zero h = omega arith
total_raised (n ∷ table) (suc m) h = let e = total_raised table m (omega arith) in omega (arith, e)

-- a number among some, and one more
among_before : (n : ℕ) (ks ls : List ℕ) → Among n ks → Among n (ks ++ ls)
unfolding Among
among_before n [] ls p = absurd p
among_before n (k ∷ ks) ls (inl e) = inl e
among_before n (k ∷ ks) ls (inr p) = inr (among_before n ks ls p)

among_last : (n : ℕ) (ks : List ℕ) → Among n (ks ++ (n ∷ []))
unfolding Among
among_last n [] = inl refl
among_last n (k ∷ ks) = inr (among_last n ks)

among-parts : (n k : ℕ) (ks : List ℕ) → Among n (ks ++ (k ∷ [])) → Among n ks ⊎ (n ≡ k)
unfolding Among
among-parts n k [] (inl e) = inr e
among-parts n k [] (inr p) = inl p
among-parts n k (l ∷ ks) (inl e) = inl (inl e)
among-parts n k (l ∷ ks) (inr p) = later (among-parts n k ks p)
  where
    later : Among n ks ⊎ (n ≡ k) → (n ≡ l ⊎ Among n ks) ⊎ (n ≡ k)
    later (inl q) = inl (inr q)
    later (inr e) = inr e

among_none : (n : ℕ) {P : Type 0} → Among n [] → P
unfolding Among
among_none n p = absurd p

more_not_none : {A : Type 0} (ks : List A) (k : A) → ks ++ (k ∷ []) ≡ [] → ⊥
more_not_none ks k e = let l = ap length e in omega (arith, l, length-append ks (k ∷ []))

-- the least of some, and one more of 1 or more
pub smallest_more : (smallest ρ : ℕ) (ρs : List ℕ) → 1 ≤ ρ → Smallest smallest ρs → Smallest (smallest_with smallest ρ) (ρs ++ (ρ ∷ []))
smallest_more smallest ρ ρs h S = cases (eqb smallest 0) (ltb ρ smallest) refl refl
  where
    made : (s : ℕ) → 1 ≤ s → Among s (ρs ++ (ρ ∷ [])) → ((k : ℕ) → Among k ρs → s ≤ k) → s ≤ ρ → Smallest s (ρs ++ (ρ ∷ []))
    made s p q least below = record {
      none = λ e. absurd (more_not_none ρs ρ e);
      zero_none = λ e. absurd (omega (arith, e));
      among = λ n. q;
      least = λ k a. each k (among-parts k ρ ρs a);
    }
      where
        each : (k : ℕ) → Among k ρs ⊎ (k ≡ ρ) → s ≤ k
        each k (inl a) = least k a
        each k (inr e) = omega (arith, e)

    cases : (z b : Bool) → eqb smallest 0 ≡ z → ltb ρ smallest ≡ b → Smallest (cond z ρ (cond b ρ smallest)) (ρs ++ (ρ ∷ []))
    cases true b e f = made ρ h (among_last ρ ρs) (λ k a. among_none k (rw (S.zero_none (eqb-true smallest 0 e)) at a)) (omega arith)
    cases false true e f = made ρ h (among_last ρ ρs) (λ k a. let l = S.least k a in omega (arith, l, ltb-true ρ smallest f)) (omega arith)
    cases false false e f =
        let some = eqb-false smallest 0 e in
        made smallest (omega arith) (among_before smallest ρs (ρ ∷ []) (S.among (λ n. some (S.none n)))) S.least (ltb-false ρ smallest f)
