-- What is kept of the first figures, one more at a time, and of all of them: the two largest.
use mathlib.Core.Path.{◌≡◌, refl, sym, ◌∙◌}
use mathlib.Core.Bool.{Bool, true, false}
use mathlib.Core.List.{List, ◌∷◌}
use Prim.Native.Nat.{ℕ, ◌+◌, ◌≤◌}
use native.Mathlib.Numerals.{add-one}
use native.Mathlib.Omega.{arith}
use native.Mathlib.Decide.{ℕ_discrete}
use lib.Dec.{T, lit<}
use lib.IntN.{ℤ}
use lib.Signed.{lt_z, ◌<ℤ◌}
use mir.Syntax.{w64}
use mir.Val.{to_z, of_z}
use Rattle.signed.specs.Within.{Within}
use Rattle.signed.proofs.Parts.{ints, size-parts}
use Rattle.signed.proofs.Locals.{reads}
use Rattle.contest.specs.Kept.{Seen, seen, lowest, Kept, taken, run}
use Rattle.contest.specs.Largest.{Best}
use Rattle.contest.specs.declared.Keeper.{Keeper}
use Rattle.contest.proofs.Keeping.{keep-first}
use Rattle.contest.proofs.KeptSpan.{kept-best}
use Rattle.columns.specs.Columns.{far}
use Rattle.figures.specs.Figures.{KeptUpTo}

above_lowest : {z : ℤ} → Within far z → lowest <ℤ z
above_lowest {z} w = omega (ints, size-parts z, w.within)

T_true : (b : Bool) → T b → b ≡ true
T_true true t = refl
T_true false t = absurd t

-- the first figure
taken-first : {v : ℤ} → lowest <ℤ v → taken (record { best = lowest; second = lowest; at = 0 }) v 0 ≡ record { best = v; second = lowest; at = 0 }
taken-first {v} h = rw (T_true (lt_z lowest v) h.lt) refl

-- the value v, which is that of g at n, taken by what the keeper promises
pub record Taken (g : ℕ → ℤ) (n : ℕ) (t : Keeper) (v : ℤ) (r : Keeper) : Type 0 where
  pub value : v ≡ g n
  pub small : Within far v
  pub more : (l : List Seen) → Kept l t → Kept (seen v n ∷ l) r
  pub is : r ≡ taken t v n

-- as the calls have it, whose value is held by an `i64`
pub took : {g : ℕ → ℤ} {n : ℕ} {t r : Keeper} {v : ℤ} → (v ≡ g n) × Within far v
    → ((l : List Seen) → Kept l t → Kept (seen (to_z w64 (of_z w64 v)) n ∷ l) r) × (r ≡ taken t (to_z w64 (of_z w64 v)) n) → Taken g n t v r
took a b = let k = rw (reads a.1 (lit< tt)) at b in record { value = a.0; small = a.1; more = k.0; is = k.1 }

-- one more
pub kept_next : {f g : ℕ → ℤ} {n m : ℕ} {t r : Keeper} {v : ℤ} → m ≡ n + 1 → f n ≡ g n → Taken g n t v r → KeptUpTo f n t → KeptUpTo f m r
kept_next {f} {g} {n} {m} {t} {r} {v} e p T K = rw (e, add-one n) (record { none = λ z. absurd (omega arith); some = λ h. go (ℕ_discrete n 0) })
  where
    at : f n ≡ v
    at = p ∙ sym T.value

    go : Dec (n ≡ 0) → Kept (seen (f n) n ∷ run f n) r
    go (yes z) =
        let o : r ≡ record { best = v; second = lowest; at = 0 } = T.is ∙ rw (K.none z, z) (taken-first (above_lowest T.small)) in
        rw (at, o, z) (keep-first v 0)
    go (no d) = rw at (T.more (run f n) (K.some (omega arith)))

pub two-kept : {f : ℕ → ℤ} {n : ℕ} {t : Keeper} → 2 ≤ n → ((k : ℕ) → Within far (f k)) → Kept (run f n) t → Best f 0 n t.best t.second t.at
two-kept {f} {n} two w = kept-best f n two (λ k h. let g = above_lowest (w k) in omega ints)
