-- Ascending lists: one larger than all may be added at the end, and two with the same members are equal.
-- Assumes nothing.
use mathlib.Core.Path.{◌≡◌, refl, sym, ap₂, subst}
use mathlib.Core.Logic.{◌⊎◌, inl, inr, ⊎_elim}
use mathlib.Core.List.Memᴰ
use mathlib.Core.List.{List, [], ◌∷◌, ◌++◌}
use Prim.Native.Nat.{ℕ, ◌<◌}
use native.Mathlib.Omega.{arith}
use Rattle.candidates.specs.Candidates.{◌∈◌, Ascending}

pub end_cases : (cs : List ℕ) {c d : ℕ} → d ∈ cs ++ (c ∷ []) → (d ≡ c) ⊎ (d ∈ cs)
end_cases cs m = ⊎_elim (λ n. inr n) (λ n. inl (Memᴰ.eq_of_singleton n)) (Memᴰ.append_cases cs m)

pub ascending_end : (cs : List ℕ) (c : ℕ) → Ascending cs → ((d : ℕ) → d ∈ cs → d < c) → Ascending (cs ++ (c ∷ []))
ascending_end [] c a h = ((λ d m. absurd (Memᴰ.not-nil m)), tt)
ascending_end (b ∷ cs) c a h = (
  (λ d m. ⊎_elim (λ e. subst (λ (x : ℕ). b < x) (sym e) (h b (Memᴰ.head refl))) (a.0 d) (end_cases cs m)),
  ascending_end cs c a.1 (λ d m. h d (Memᴰ.tail m)),
)

module _ (x y : ℕ) (xs ys : List ℕ) (a : Ascending (x ∷ xs)) (b : Ascending (y ∷ ys)) where
  same_first : x ∈ y ∷ ys → y ∈ x ∷ xs → x ≡ y
  same_first m n =
      ⊎_elim (λ e. e)
      (λ p. ⊎_elim (λ e. sym e) (λ q. let f : ⊥ = omega (arith, a.0 y q, b.0 x p) in absurd f) (Memᴰ.cases_cons n))
      (Memᴰ.cases_cons m)

  rest_member : x ≡ y → (c : ℕ) → c ∈ xs → c ∈ y ∷ ys → c ∈ ys
  rest_member e c m n = ⊎_elim (λ p. let f : ⊥ = omega (arith, a.0 c m) in absurd f) (λ q. q) (Memᴰ.cases_cons n)

pub ascending-same :
    (xs ys : List ℕ)
    → Ascending xs
    → Ascending ys
    → ((c : ℕ) → c ∈ xs → c ∈ ys)
    → ((c : ℕ) → c ∈ ys → c ∈ xs)
    → xs ≡ ys
ascending-same [] [] a b f g = refl
ascending-same [] (y ∷ ys) a b f g = absurd (Memᴰ.not-nil (g y (Memᴰ.head refl)))
ascending-same (x ∷ xs) [] a b f g = absurd (Memᴰ.not-nil (f x (Memᴰ.head refl)))
ascending-same (x ∷ xs) (y ∷ ys) a b f g =
    let e = same_first x y xs ys a b (f x (Memᴰ.head refl)) (g y (Memᴰ.head refl)) in
    ap₂ ◌∷◌ e
    (ascending-same xs ys a.1 b.1
    (λ c m. rest_member x y xs ys a b e c m (f c (Memᴰ.tail m)))
    (λ c m. rest_member y x ys xs b a (sym e) c m (g c (Memᴰ.tail m))))
