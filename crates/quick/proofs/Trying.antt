-- The fillings are tried from the highest down, by subsets of the zeros, each one less with the bits at the zeros kept: what is known at each turn.
-- Assumes nothing.
use mathlib.Core.Path.{◌≡◌, sym, subst}
use mathlib.Core.List.{List}
use Prim.Native.Nat.{ℕ, ◌+◌, ◌-◌, ◌^◌, ◌≤◌, ◌<◌}
use native.Mathlib.Omega.{arith}
use native.Mathlib.Decide.{dec_lt}
use lib.IntN.{ℤ}
use lib.ListN.{length}
use lib.Bits.{bit_and}
use lib.Pow.{pow_mono}
use Rattle.golay.specs.Answers.{accepted}
use Rattle.signs.specs.Signs.{sign_word}
use Rattle.signs.specs.Fillings.{zero_word, Filling}
use Rattle.signs.proofs.Fillings.{Subset, subset_all, subset_le, subset_filling, filling_subset}
use Rattle.signs.proofs.Steps.{Lower, step_lower}
use Rattle.decision.specs.Decision.{Decides}

-- the filling that has a 1 at each zero
pub highest_filling : {xs : List ℤ} {least places : ℕ} → least ≡ sign_word xs → places ≡ zero_word xs → Filling xs (least + places)
highest_filling {xs} l z = rw (l, z) (subset_filling xs (zero_word xs) (subset_all xs))

-- s is a subset of the zeros, and with it and all higher ones the fillings are decided for c
pub record Tried (c : ℕ) (xs : List ℤ) (s : ℕ) : Type 0 where
  pub subset : Subset xs s
  pub higher : (v : ℕ) → Subset xs v → s ≤ v → Decides (sign_word xs + v) xs (accepted c)

module _ {c : ℕ} {xs : List ℤ} {least places : ℕ} (l : least ≡ sign_word xs) (z : places ≡ zero_word xs) where
  pub tried_first : Decides (least + places) xs (accepted c) → Tried c xs places
  tried_first d = record {
    subset = subst (Subset xs) (sym z) (subset_all xs);
    higher = λ v k h.
        let e : least + places ≡ sign_word xs + v = omega (arith, l, z, subset_le xs v k) in
        subst (λ (w : ℕ). Decides w xs (accepted c)) e d;
  }

  module _ {s : ℕ} (T : Tried c xs s) (p : 0 < s) where
    abbrev next : ℕ
    next = bit_and (s - 1) places

    lower : Lower xs s next
    lower = subst (λ (w : ℕ). Lower xs s (bit_and (s - 1) w)) (sym z) (step_lower xs s T.subset p)

    next_filling : Filling xs (least + next)
    next_filling = subst (λ (w : ℕ). Filling xs (w + next)) (sym l) (subset_filling xs next lower.subset)

    -- it is a word of as many bits as there are positions
    pub next-short : {n : ℕ} → length xs ≤ n → least + next < 2 ^ n
    next-short h = omega (arith, next_filling.short, pow_mono h)

    pub tried_next : Decides (least + next) xs (accepted c) → Tried c xs next
    tried_next d = record { subset = lower.subset; higher = higher }
      where
        higher : (v : ℕ) → Subset xs v → next ≤ v → Decides (sign_word xs + v) xs (accepted c)
        higher v k h = go (dec_lt v s)
          where
            go : Dec (v < s) → Decides (sign_word xs + v) xs (accepted c)
            go (yes q) =
                let e : least + next ≡ sign_word xs + v = omega (arith, l, lower.highest v k q) in
                subst (λ (w : ℕ). Decides w xs (accepted c)) e d
            go (no q) = T.higher v k (omega arith)

    pub tried_not : (Decides (least + next) xs (accepted c) → ⊥) → ((word : ℕ) → Filling xs word → Decides word xs (accepted c)) → ⊥
    tried_not d all = d (all (least + next) next_filling)

pub tried_all : {c : ℕ} {xs : List ℤ} {s : ℕ} → Tried c xs s → s ≡ 0 → (word : ℕ) → Filling xs word → Decides word xs (accepted c)
tried_all {c} {xs} T e word F =
    let (v, f, k) = filling_subset xs word F in
    subst (λ (w : ℕ). Decides w xs (accepted c)) (sym f) (T.higher v k (omega arith))
