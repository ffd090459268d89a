-- The quick decoder's rule, taken apart: what it allows where its tests are known; and that two answers that it allows are equal.
-- Assumes nothing.
use mathlib.Core.Path.{◌≡◌, refl, sym, ap, subst}
use mathlib.Core.Bool.{true, false}
use mathlib.Core.List.{List}
use Prim.Native.Nat.{ℕ, zero, suc, ◌<◌}
use native.Mathlib.Omega.{arith}
use lib.IntN.{ℤ}
use lib.ListN.{length}
use borrow.Author.Tests.{eq-eqb, ne_eqb}
use Rattle.code.specs.Code.{positions}
use Rattle.std.specs.Prelude.{Result, Option, Some, None, ok_or}
use Rattle.golay.specs.declared.kinds.Codeword.{Codeword}
use Rattle.golay.specs.declared.kinds.Refusal.{Refusal}
use Rattle.golay.specs.declared.kinds.Refusal.TheVariants.{WrongLength, MostNegative, Tied}
use Rattle.golay.specs.Answers.{Answer, accepted, refused}
use Rattle.golay.specs.Calls.{wrong_length}
use Rattle.golay.proofs.Decided.{answer-once, refuse-once}
use Rattle.reading.specs.Checks.{most_negative}
use Rattle.signs.specs.Signs.{sign_word}
use Rattle.signs.specs.Fillings.{zeros}
use Rattle.signs.proofs.Fillings.{sign_filling}
use Rattle.decision.specs.Decision.{decision_answer, Decides}
use Rattle.decision.proofs.Decided.{decides_one, decided-same}
use Rattle.quick.specs.Quick.{quick_answer, Settles, settled, unsettled, Answers, QuickRule}

-- a tied word is refused with 6
pub tied_refused : (d : Option Codeword) → quick_answer (ok_or d Tied) ≡ decision_answer d
tied_refused (Some c) = refl
tied_refused None = refl

module _ (xs : List ℤ) where
  pub quick-length : (length xs ≡ 24 → ⊥) → QuickRule xs (refused 1)
  unfolding QuickRule
  quick-length l = simp (ne_eqb (length xs) 24 l)

  module _ (l : length xs ≡ 24) where
    pub quick-negative : most_negative xs ≡ true → QuickRule xs (refused 2)
    unfolding QuickRule
    quick-negative e = simp (eq-eqb (length xs) 24 l, e)

    module _ (e : most_negative xs ≡ false) (a : Answer ℕ) where
      pub quick-answers : Answers (zeros xs) xs a → QuickRule xs a
      unfolding QuickRule
      quick-answers d = simp (eq-eqb (length xs) 24 l, e) d

      pub quick-signs : zeros xs ≡ 0 → Decides (sign_word xs) xs a → QuickRule xs a
      quick-signs z d = quick-answers (subst (λ (n : ℕ). Answers n xs a) (sym z) d)

      pub quick_settles : 0 < zeros xs → Settles xs a → QuickRule xs a
      quick_settles h s = quick-answers (go (zeros xs) h)
        where
          go : (n : ℕ) → 0 < n → Answers n xs a
          go zero p = let f : ⊥ = omega arith in absurd f
          go (suc n) p = s

-- ---- two allowed answers are equal

settles_one : {xs : List ℤ} {a b : Answer ℕ} → Settles xs a → Settles xs b → a ≡ b
settles_one {xs} (settled p) (settled q) = ap accepted (decided-same (p.each (sign_word xs) (sign_filling xs)) (q.each (sign_word xs) (sign_filling xs)))
settles_one (settled {c} p) (unsettled n) = absurd (n c p)
settles_one (unsettled n) (settled {c} p) = absurd (n c p)
settles_one (unsettled n) (unsettled m) = refl

answers_one : (n : ℕ) (xs : List ℤ) (a b : Answer ℕ) → Answers n xs a → Answers n xs b → a ≡ b
answers_one zero xs a b p q = decides_one p q
answers_one (suc n) xs a b p q = settles_one p q

pub quick-once : (xs : List ℤ) (a b : Answer ℕ) → QuickRule xs a → QuickRule xs b → a ≡ b
unfolding QuickRule
quick-once xs = refuse-once WrongLength (wrong_length positions xs) (refuse-once MostNegative (most_negative xs) (answers_one (zeros xs) xs))

pub quick-decided : (xs : List ℤ) (x y : Result Codeword Refusal) → QuickRule xs (quick_answer x) → QuickRule xs (quick_answer y) → x ≡ y
quick-decided xs x y p q =
    answer-once (λ codeword. codeword.0) (λ n. record { 0 = n }) (λ c. refl) x y (quick-once xs (quick_answer x) (quick_answer y) p q) refl
