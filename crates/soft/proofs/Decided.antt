-- Two answers that a rule allows for one input are equal: the contest has one answer, and the largest of a class has one value. And the soft
-- rule allows one for every reading, of whatever length and range.
use mathlib.Core.Path.{◌≡◌, refl, sym, ap, ◌∙◌}
use mathlib.Core.Bool.{Bool, true, false}
use mathlib.Core.List.{List}
use Prim.Native.Nat.{ℕ}
use lib.Dec.{eqb}
use lib.IntN.{ℤ}
use lib.ListN.{length}
use borrow.Author.Tests.{eqb-true, not-false}
use Rattle.signed.proofs.Parts.{ints}
use Rattle.contest.specs.Answers.{Answers}
use Rattle.contest.specs.Answers as contest
use Rattle.contest.proofs.Bounds.{own_range}
use Rattle.contest.proofs.Decided.{one_answer, decided}
use Rattle.code.specs.Code.{messages, positions}
use Rattle.std.specs.Prelude.{Result}
use Rattle.golay.specs.declared.kinds.Refusal.{Refusal}
use Rattle.golay.specs.declared.kinds.Refusal.TheVariants.{WrongLength, MostNegative, ClassAbove}
use Rattle.golay.specs.Refusals.{number}
use Rattle.golay.specs.Answers.{Answer, accepted, refused, Refuse}
use Rattle.golay.proofs.Decided.{answer-once, refuse-once}
use Rattle.classes.specs.Codewords.{word}
use Rattle.classes.specs.Classes.{class_above}
use Rattle.classes.proofs.Codewords.{family}
use Rattle.soft.specs.declared.kinds.Soft.{Soft}
use Rattle.soft.specs.Answers.{soft_answer, class_figure_answer}
use Rattle.golay.specs.Calls.{wrong_length}
use Rattle.reading.specs.Checks.{most_negative}
use Rattle.soft.specs.Calls.{told, Decides, SoftRule, HasFigure, ClassFigureRule}
use Rattle.soft.proofs.Rules.{soft_decides}

decides_once : (xs : List ℤ) (a b : Answer Soft) → Decides xs a → Decides xs b → a ≡ b
decides_once xs a b p q = p.is ∙ ap (told xs) (one_answer messages word xs p.outcome q.outcome p.answers q.answers) ∙ sym q.is

figure-once : (xs : List ℤ) (k : ℕ) (a b : Answer ℤ) → HasFigure xs k a → HasFigure xs k b → a ≡ b
figure-once xs k a b p q =
    let g = p.largest.most q.message q.largest.from q.largest.below in
    let h = q.largest.most p.message p.largest.from p.largest.below in
    p.is ∙ ap accepted (omega ints) ∙ sym q.is

pub soft-once : (xs : List ℤ) (a b : Answer Soft) → SoftRule xs a → SoftRule xs b → a ≡ b
unfolding SoftRule
soft-once xs = refuse-once WrongLength (wrong_length positions xs) (refuse-once MostNegative (most_negative xs) (decides_once xs))

pub soft_exists : (xs : List ℤ) → (a : Answer Soft) × SoftRule xs a
unfolding SoftRule
soft_exists xs = go (wrong_length positions xs) (most_negative xs) refl
  where
    go : (w m : Bool) → wrong_length positions xs ≡ w → (a : Answer Soft) × Refuse WrongLength w (Refuse MostNegative m (Decides xs)) a
    go true m e = (refused (number WrongLength), refl)
    go false true e = (refused (number MostNegative), refl)
    go false false e =
        let d = decided family (record { long = eqb-true (length xs) 24 (not-false (eqb (length xs) 24) e); range = own_range xs }) in
        (told xs d.0, record { outcome = d.0; answers = d.1; is = refl })

pub class_figure-once : (xs : List ℤ) (k : ℕ) (a b : Answer ℤ) → ClassFigureRule xs k a → ClassFigureRule xs k b → a ≡ b
unfolding ClassFigureRule
class_figure-once xs k =
    refuse-once WrongLength (wrong_length positions xs)
    (refuse-once MostNegative (most_negative xs) (refuse-once ClassAbove (class_above k) (figure-once xs k)))

-- the contest's outcome decides every answer to a reading that is not refused before it
pub soft-told : (xs : List ℤ) → length xs ≡ positions → most_negative xs ≡ false → (outcome : contest.Answer) → Answers messages word xs outcome
    → (a : Answer Soft) → SoftRule xs a → a ≡ told xs outcome
soft-told xs l e o w a r = soft-once xs a (told xs o) r (soft_decides xs l e (record { outcome = o; answers = w; is = refl }))

-- ---- of the calls' own answers

pub soft-decided : (xs : List ℤ) (x y : Result Soft Refusal) → SoftRule xs (soft_answer x) → SoftRule xs (soft_answer y) → x ≡ y
soft-decided xs x y p q =
    answer-once (λ values. values) (λ values. values) (λ values. refl) x y (soft-once xs (soft_answer x) (soft_answer y) p q) refl

pub class_figure-decided : (xs : List ℤ) (k : ℕ) (x y : Result ℤ Refusal)
    → ClassFigureRule xs k (class_figure_answer x) → ClassFigureRule xs k (class_figure_answer y) → x ≡ y
class_figure-decided xs k x y p q =
    answer-once (λ value. value) (λ value. value) (λ value. refl) x y (class_figure-once xs k (class_figure_answer x) (class_figure_answer y) p q) refl
