-- A reading can be weakened, by any amount up to what it says for one word where another differs, at the first word's expense alone: each
-- number that is moved goes toward zero, so a range is kept.
use mathlib.Core.Path.{◌≡◌, refl, ap}
use mathlib.Core.Bool.{Bool, true, false, cond}
use mathlib.Core.List.{List, [], ◌∷◌}
use Prim.Native.Nat.{ℕ, suc, min, ◌+◌, ◌-◌, ◌≤◌}
use native.Mathlib.Omega.{arith}
use lib.IntN.{ℤ, pos, negsuc, neg_ℤ, nat_abs, ◌-ℤ◌}
use lib.ListN.{length}
use Rattle.signed.specs.Sign.{hi, lo, signed}
use Rattle.signed.proofs.Parts.{hi-neg, lo-neg, one_part, parts}
use Rattle.contest.specs.Words.{differ}
use Rattle.contest.specs.Readings.{InRange, change}
use Rattle.contest.specs.Losses.{loss}
use Rattle.contest.proofs.Loss.{Aligned, none, more}

-- nearer to zero by k
abbrev weaken : ℕ → ℤ → ℤ
weaken k (pos n) = pos (n - k)
weaken k (negsuc n) = neg_ℤ (pos (suc n - k))

hi_weaken : (k : ℕ) (x : ℤ) → hi (weaken k x) ≡ hi x - k
hi_weaken k (pos n) = refl
hi_weaken k (negsuc n) = omega (arith, hi-neg (pos (suc n - k)))

lo_weaken : (k : ℕ) (x : ℤ) → lo (weaken k x) ≡ lo x - k
lo_weaken k (pos n) = omega arith
lo_weaken k (negsuc n) = lo-neg (pos (suc n - k))

-- what the reading says for the first word, where the two differ
abbrev one-room : Bool → Bool → ℤ → ℕ
one-room b c x = cond (differ b c) (hi (signed b x)) 0

abbrev pub room : List Bool → List Bool → List ℤ → ℕ
room [] cs xs = 0
room (b ∷ bs) [] xs = 0
room (b ∷ bs) (c ∷ cs) [] = 0
room (b ∷ bs) (c ∷ cs) (x ∷ xs) = one-room b c x + room bs cs xs

-- there is room for the whole lead of the first word over the second
one_enough : (b c : Bool) (x : ℤ) → lo (signed c x) ≤ lo (signed b x) + one-room b c x
one_enough false false x = omega arith
one_enough false true x = omega (arith, lo-neg x)
one_enough true false x = omega (arith, hi-neg x)
one_enough true true x = omega arith

pub enough : {bs cs : List Bool} {xs ys : List ℤ} → Aligned bs cs xs ys → loss cs xs ≤ loss bs xs + room bs cs xs
enough none = omega arith
enough (more {b = b} {c = c} {x = x} a) = omega (arith, one_enough b c x, enough a)

abbrev Moved1 : Bool → Bool → ℤ → ℕ → Type 0
Moved1 b c x k = record {
  inside : nat_abs (weaken k x) ≤ nat_abs x;
  by : nat_abs (weaken k x -ℤ x) ≡ k;
  kept : lo (signed b (weaken k x)) ≡ lo (signed b x);
  won : lo (signed c (weaken k x)) + k ≡ lo (signed c x);
}

move1 : (b c : Bool) (x : ℤ) (k : ℕ) → k ≤ one-room b c x → Moved1 b c x k
move1 false false x k h = simp (parts, hi_weaken, lo_weaken) (omega (arith, one_part x))
move1 false true x k h = simp (parts, hi_weaken, lo_weaken) (omega (arith, one_part x))
move1 true false x k h = simp (parts, hi_weaken, lo_weaken) (omega (arith, one_part x, hi-neg x))
move1 true true x k h = simp (parts, hi_weaken, lo_weaken) (omega (arith, one_part x))

-- another reading, k away, at which the first word loses no more and the second less by k
pub record Moved (B : ℕ) (bs cs : List Bool) (xs : List ℤ) (k : ℕ) : Type 0 where
  pub to : List ℤ
  pub long : length to ≡ length xs
  pub range : InRange B xs → InRange B to
  pub by : change xs to ≡ k
  pub kept : loss bs to ≡ loss bs xs
  pub won : loss cs to + k ≡ loss cs xs

-- as much of what is owed as there is room for here, and the rest further on
pub move : (B : ℕ) {bs cs : List Bool} {xs ys : List ℤ} → Aligned bs cs xs ys → (k : ℕ) → k ≤ room bs cs xs → Moved B bs cs xs k
unfolding InRange change
move B none k h = record { to = []; long = refl; range = λ r. r; by = omega arith; kept = refl; won = omega arith }
move B (more {b = b} {c = c} {x = x} {bs = bs} {cs = cs} {xs = xs} a) k h =
    let j = min k (one-room b c x) in
    let one : Moved1 b c x j = move1 b c x j (omega arith) in
    let rest : Moved B bs cs xs (k - j) = move B a (k - j) (omega arith) in
    record {
      to = weaken j x ∷ rest.to;
      long = ap suc rest.long;
      range = λ r. (record { within = omega (arith, one.inside, r.0.within) }, rest.range r.1);
      by = omega (arith, one.by, rest.by);
      kept = omega (arith, one.kept, rest.kept);
      won = omega (arith, one.won, rest.won);
    }
