-- One value more keeps the two largest, in each of three cases; and what is kept of a list is decided by the list.
use mathlib.Core.Path.{◌≡◌, refl, sym, ap, ap₂, subst, ◌∙◌}
use mathlib.Core.Logic.{◌⊎◌, inl, inr}
use mathlib.Core.Bool.{Bool, true, false, cond}
use mathlib.Core.List.Memᴰ
use mathlib.Core.List.{List, [], ◌∷◌, ◌++◌, Memᴰ}
use Prim.Native.Nat.{ℕ}
use lib.IntN.{ℤ}
use lib.Signed.{lt_z, ◌≤ℤ◌, ◌<ℤ◌, ≤ℤ_refl}
use Rattle.signed.proofs.Parts.{lt_true, lt_false, ints}
use Rattle.contest.specs.Kept.{Seen, seen, values, lowest, Highest, Kept, taken}
use Rattle.contest.specs.declared.Keeper.{Keeper}

values-append : (l r : List Seen) → values (l ++ r) ≡ values l ++ values r
values-append [] r = refl
values-append (s ∷ l) r = ap (λ (vs : List ℤ). s.value ∷ vs) (values-append l r)

-- what holds of the head and of the rest
more : {P : ℤ → Type 0} {v : ℤ} {l : List ℤ} → P v → ((x : ℤ) → Memᴰ x l → P x) → (x : ℤ) → Memᴰ x (v ∷ l) → P x
more {P} {v} {l} h q x m = go (Memᴰ.cases_cons m)
  where
    go : (x ≡ v) ⊎ Memᴰ x l → P x
    go (inl e) = subst P (sym e) h
    go (inr n) = q x n

-- the largest of a list, with one more put in behind its head
module _ {a v s : ℤ} {l : List ℤ} (H : Highest (a ∷ l) s) where
  highest_new : s <ℤ v → Highest (a ∷ v ∷ l) v
  highest_new h = record {
    among = Memᴰ.tail (Memᴰ.head refl);
    most = more
        (let u = H.most a (Memᴰ.head refl) in omega ints)
        (more (≤ℤ_refl v) (λ x n. let u = H.most x (Memᴰ.tail n) in omega ints));
  }

  highest_old : v ≤ℤ s → Highest (a ∷ v ∷ l) s
  highest_old h = record {
    among = go (Memᴰ.cases_cons H.among);
    most = more (H.most a (Memᴰ.head refl)) (more h (λ x n. H.most x (Memᴰ.tail n)));
  }
    where
      go : (s ≡ a) ⊎ Memᴰ s l → Memᴰ s (a ∷ v ∷ l)
      go (inl e) = Memᴰ.head e
      go (inr m) = Memᴰ.tail (Memᴰ.tail m)

pub keep-first : (v : ℤ) (p : ℕ) → Kept (seen v p ∷ []) (record { best = v; second = lowest; at = p })
keep-first v p = record {
  later = [];
  earlier = [];
  split = refl;
  most = λ x m. absurd (Memᴰ.not-nil m);
  first = λ x m. absurd (Memᴰ.not-nil m);
  others = record { among = Memᴰ.head refl; most = λ x m. let e = Memᴰ.eq_of_singleton m in omega ints };
}

module _ {l : List Seen} {t : Keeper} (K : Kept l t) where
  pub kept_there : Memᴰ t.best (values l)
  kept_there = rw (K.split, values-append) (Memᴰ.append_right (values K.later) (Memᴰ.head refl))

  pub kept-most : (x : ℤ) → Memᴰ x (values l) → x ≤ℤ t.best
  kept-most x m = go (Memᴰ.append_cases (values K.later) (rw (K.split, values-append) at m))
    where
      top : (x ≡ t.best) ⊎ Memᴰ x (values K.earlier) → x ≤ℤ t.best
      top (inl e) = omega ints
      top (inr n) = let g = K.first x n in omega ints

      go : Memᴰ x (values K.later) ⊎ Memᴰ x (t.best ∷ values K.earlier) → x ≤ℤ t.best
      go (inl n) = let g = K.most x n in omega ints
      go (inr n) = top (Memᴰ.cases_cons n)

  module _ (v : ℤ) (p : ℕ) where
    keep-best : lowest ≤ℤ t.best → t.best <ℤ v → Kept (seen v p ∷ l) (record { best = v; second = t.best; at = p })
    keep-best low h = record {
      later = [];
      earlier = l;
      split = refl;
      most = λ x m. absurd (Memᴰ.not-nil m);
      first = λ x m. let g = kept-most x m in omega ints;
      others = record { among = Memᴰ.tail kept_there; most = more low kept-most };
    }

    keep-second : v ≤ℤ t.best → t.second <ℤ v → Kept (seen v p ∷ l) (record { best = t.best; second = v; at = t.at })
    keep-second h g = record {
      later = seen v p ∷ K.later;
      earlier = K.earlier;
      split = ap (λ (r : List Seen). seen v p ∷ r) K.split;
      most = more h K.most;
      first = K.first;
      others = highest_new K.others g;
    }

    keep-none : v ≤ℤ t.best → v ≤ℤ t.second → Kept (seen v p ∷ l) t
    keep-none h g = record {
      later = seen v p ∷ K.later;
      earlier = K.earlier;
      split = ap (λ (r : List Seen). seen v p ∷ r) K.split;
      most = more h K.most;
      first = K.first;
      others = highest_old K.others g;
    }

    keep_taken : lowest ≤ℤ t.best → Kept (seen v p ∷ l) (taken t v p)
    keep_taken low = go (lt_z t.best v) (lt_z t.second v) (lt_true _ v) (lt_false _ v) (lt_true _ v) (lt_false _ v)
      where
        go : (x y : Bool) → (x ≡ true → t.best <ℤ v) → (x ≡ false → v ≤ℤ t.best) → (y ≡ true → t.second <ℤ v) → (y ≡ false → v ≤ℤ t.second)
            → Kept (seen v p ∷ l)
            (cond x (record { best = v; second = t.best; at = p }) (cond y (record { best = t.best; second = v; at = t.at }) t))
        go true y a b c d = keep-best low (a refl)
        go false true a b c d = keep-second (b refl) (c refl)
        go false false a b c d = keep-none (b refl) (d refl)

-- ---- after any sequence of steps

-- the step, by its tests
module _ (t : Keeper) (v : ℤ) (p : ℕ) where
  pub taken-best : lt_z t.best v ≡ true → record { best = v; second = t.best; at = p } ≡ taken t v p
  taken-best e = rw e refl

  pub taken-second : lt_z t.best v ≡ false → lt_z t.second v ≡ true → record { best = t.best; second = v; at = t.at } ≡ taken t v p
  taken-second e g = rw (e, g) refl

  pub taken_none : lt_z t.best v ≡ false → lt_z t.second v ≡ false → t ≡ taken t v p
  taken_none e g = rw (e, g) refl

-- what it answers
pub keep-step : {t r : Keeper} {v : ℤ} {p : ℕ} → lowest ≤ℤ t.best → r ≡ taken t v p
    → ((l : List Seen) → Kept l t → Kept (seen v p ∷ l) r) × (r ≡ taken t v p)
keep-step {v = v} {p = p} low e = (λ l K. rw e (keep_taken K v p low), e)

-- the first value, and then the rest, the latest first
abbrev pub after : Seen → List Seen → Keeper
after s [] = record { best = s.value; second = lowest; at = s.place }
after s (x ∷ l) = taken (after s l) x.value x.place

pub keep_after : (s : Seen) (l : List Seen) → ((x : ℤ) → Memᴰ x (values (l ++ (s ∷ []))) → lowest ≤ℤ x)
    → Kept (l ++ (s ∷ [])) (after s l)
keep_after s [] low = keep-first s.value s.place
keep_after s (x ∷ l) low =
    let K = keep_after s l (λ y m. low y (Memᴰ.tail m)) in
    keep_taken K x.value x.place (low _ (Memᴰ.tail (kept_there K)))

-- ---- a list has one keeper

highest_one : {l : List ℤ} {s t : ℤ} → Highest l s → Highest l t → s ≡ t
highest_one {s = s} {t = t} H G = let g = H.most t G.among in let h = G.most s H.among in omega ints

-- where the first of the largest stands is decided
place : (a b c d : List Seen) {s r : Seen} → a ++ (s ∷ c) ≡ b ++ (r ∷ d) → s.value ≡ r.value
    → ((x : ℤ) → Memᴰ x (values c) → x <ℤ s.value) → ((x : ℤ) → Memᴰ x (values d) → x <ℤ r.value)
    → (s ≡ r) × (a ++ c ≡ b ++ d)
place [] [] c d e v p q = (cc, cc)
place [] (y ∷ b) c d {s} {r} e v p q =
    let f : c ≡ b ++ (r ∷ d) = cc in
    let g = p r.value (rw (f, values-append) (Memᴰ.append_right (values b) (Memᴰ.head refl))) in
    absurd (omega ints)
place (x ∷ a) [] c d {s} {r} e v p q =
    let f : d ≡ a ++ (s ∷ c) = cc in
    let g = q s.value (rw (f, values-append) (Memᴰ.append_right (values a) (Memᴰ.head refl))) in
    absurd (omega ints)
place (x ∷ a) (y ∷ b) c d {s} {r} e v p q =
    let f : a ++ (s ∷ c) ≡ b ++ (r ∷ d) = cc in
    let g = place a b c d f v p q in
    (g.0, cc g.1)

keeper : ℤ → ℤ → ℕ → Keeper
keeper b s p = record { best = b; second = s; at = p }

pub kept-one : {l : List Seen} {t u : Keeper} → Kept l t → Kept l u → t ≡ u
unfolding keeper
kept-one {t = t} {u = u} K J =
    let g = kept-most J t.best (kept_there K) in
    let h = kept-most K u.best (kept_there J) in
    let b : t.best ≡ u.best = omega ints in
    let e = place K.later J.later K.earlier J.earlier (sym K.split ∙ J.split) b K.first J.first in
    let s : t.second ≡ u.second = highest_one (rw e.1 at K.others) J.others in
    let p : t.at ≡ u.at = ap (λ (x : Seen). x.place) e.0 in
    ap (λ (x : ℤ). keeper x t.second t.at) b ∙ ap₂ (keeper u.best) s p
