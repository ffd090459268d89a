-- The rule decides: any two answers that it allows for a word are equal, and so are two decisions that its promise allows.
-- Assumes nothing.
use mathlib.Core.Path.{◌≡◌, refl, sym, ap, ◌∙◌}
use mathlib.Core.Bool.{Bool, true, false}
use mathlib.Core.List.{List}
use Prim.Native.Nat.{ℕ}
use native.Mathlib.Omega.{arith}
use native.Mathlib.Decide.{ℕ_discrete}
use lib.IntN.{ℤ}
use Rattle.std.specs.Prelude.{Option, Some, None}
use Rattle.golay.specs.declared.kinds.Codeword.{Codeword}
use Rattle.golay.specs.Answers.{Answer, accepted, refused}
use Rattle.golay.proofs.Decided.{said_once}
use Rattle.hard.specs.Answers.{Correction}
use Rattle.hard.proofs.Decided.{correct-once}
use Rattle.hard.proofs.Meaning.{no_answer}
use Rattle.decision.specs.Decision.{decision_answer, Cheapest, TwoCheapest, Chosen, alone, shared, Follows, Decides, Gives}

module _ {word : ℕ} {xs : List ℤ} where
  -- two that are cheapest alone are one, and none is beside two that share it
  same-cheapest : {c d : ℕ} → Cheapest word xs c → Cheapest word xs d → c ≡ d
  same-cheapest {c} {d} p q = go (ℕ_discrete c d)
    where
      go : Dec (c ≡ d) → c ≡ d
      go (yes e) = e
      go (no n) =
          let f : ⊥ = omega (arith, p.cheaper d q.candidate (λ e. n (sym e)), q.cheaper c p.candidate n) in
          absurd f

  not-both : {c : ℕ} → Cheapest word xs c → TwoCheapest word xs → ⊥
  not-both {c} p t = go (ℕ_discrete t.one c)
    where
      go : Dec (t.one ≡ c) → ⊥
      go (yes e) =
          omega (arith, p.cheaper t.other t.candidate-other (λ q. t.different (e ∙ sym q)), t.equal, t.least c p.candidate)
      go (no n) = omega (arith, p.cheaper t.one t.candidate n, t.least c p.candidate)

  chosen-one : {a b : Answer ℕ} → Chosen word xs a → Chosen word xs b → a ≡ b
  chosen-one (alone p) (alone q) = ap accepted (same-cheapest p q)
  chosen-one (alone p) (shared t) = absurd (not-both p t)
  chosen-one (shared t) (alone p) = absurd (not-both p t)
  chosen-one (shared t) (shared u) = refl

follows-one : (word : ℕ) (xs : List ℤ) (c : Answer Correction) {a b : Answer ℕ} → Follows word xs c a → Follows word xs c b → a ≡ b
follows-one word xs (accepted c) p q = p ∙ sym q
follows-one word xs (refused n) p q = chosen-one p q

pub decides_one : {word : ℕ} {xs : List ℤ} {a b : Answer ℕ} → Decides word xs a → Decides word xs b → a ≡ b
decides_one {word} {xs} p q =
    let e = correct-once word p.correction q.correction p.corrects q.corrects in
    follows-one word xs q.correction (rw e at p.follows) q.follows

-- a word is decided for one codeword, or tied
pub decided-same : {word : ℕ} {xs : List ℤ} {c d : ℕ} → Decides word xs (accepted c) → Decides word xs (accepted d) → c ≡ d
decided-same p q = same (decides_one p q)
  where
    same : {c d : ℕ} → ◌≡◌ {A = Answer ℕ} (accepted c) (accepted d) → c ≡ d
    same e = cc

pub tied-alone : {word : ℕ} {xs : List ℤ} {c : ℕ} → Decides word xs (refused 6) → Decides word xs (accepted c) → ⊥
tied-alone p q = no_answer (decides_one q p)

-- a word that is not decided for a codeword has 6, and no other number
pub decides_six : {word : ℕ} {xs : List ℤ} {n : ℕ} → Decides word xs (refused n) → n ≡ 6
decides_six {word} {xs} {n} p = go p.correction p.follows
  where
    chosen : (a : Answer ℕ) → Chosen word xs a → a ≡ refused n → n ≡ 6
    chosen a (alone c) e = absurd (no_answer e)
    chosen a (shared t) e = cc

    go : (c : Answer Correction) → Follows word xs c (refused n) → n ≡ 6
    go (accepted c) f = absurd (no_answer (sym f))
    go (refused m) f = chosen (refused n) f refl

-- ---- of the call's own answers, which are made again from what they stand for

again : Answer ℕ → Option Codeword
again (accepted x) = Some (record { 0 = x })
again (refused n) = None

back : (r : Option Codeword) → again (decision_answer r) ≡ r
unfolding again
back (Some c) = refl
back None = refl

pub gives-once : {c word : ℕ} {xs : List ℤ} (a b : Bool) → Gives c word xs a → Gives c word xs b → a ≡ b
gives-once true true p q = refl
gives-once true false p q = absurd (q.gives-not refl (p.gives refl))
gives-once false true p q = absurd (p.gives-not refl (q.gives refl))
gives-once false false p q = refl

pub decide-decided : (word : ℕ) (xs : List ℤ) (x y : Option Codeword) → Decides word xs (decision_answer x) → Decides word xs (decision_answer y) → x ≡ y
decide-decided word xs x y p q = said_once decision_answer again back x y (decides_one p q) refl
