-- What the fillings tried are decided for.
-- Assumes nothing.
use Rattle.std.proofs.Common.{◌≡◌, ◌∙◌, ap, subst, ℕ, ◌+◌, ◌^◌, ◌<◌, arith}
use Rattle.std.proofs.lemmas.Result.{err_from_is_err_and}
use Rattle.std.specs.Prelude.{ok_or}
use native.Mathlib.Nat.{mod-eq_of_lt}
use lib.Pow.{pow_mono}
use Rattle.binary.specs.Words.{ones}
use Rattle.golay.specs.declared.kinds.Refusal.TheVariants.{Unsettled}
use Rattle.signs.specs.Signs.{whole}
use Rattle.signs.specs.Fillings.{zeros, Filling}
use Rattle.signs.proofs.Whole.{whole-short}
use Rattle.signs.proofs.Zeros.{zeros-ones}
use Rattle.decision.specs.Decision.{decision_answer, Decides}
use Rattle.quick.proofs.Trying.{highest_filling}
use Rattle.quick.proofs.Settling.{many_unsettled, tied-unsettled, all_settled, not-all-unsettled}
use Rattle.quick.proofs.fillings.Goals as goal
use Rattle.quick.proofs.fillings.Goals.{After-ones, After-decide}

-- the ones of the zeros' word, counted, are the zeros
counted : (c : After-ones) → c.ones.result ≡ zeros (whole 24 c.args.reading.now)
counted c =
    let xs = whole 24 c.args.reading.now in
    c.ones.ensures ∙ ap (ones 32) c.zero_word-places.ensures.0 ∙ zeros-ones 32 xs (omega (arith, whole-short 24 c.args.reading.now))

-- the word that is decided first, the filling that has a 1 at each zero
highest : (c : After-decide) → Filling (whole 24 c.args.reading.now) (c.sign_word-least.result + c.zero_word-places.result)
highest c = highest_filling c.sign_word-least.ensures.0 c.zero_word-places.ensures.0

first : (c : After-decide) → Decides (c.sign_word-least.result + c.zero_word-places.result) (whole 24 c.args.reading.now) (decision_answer c.decide.result)
first c =
    let F = highest c in
    let short : c.sign_word-least.result + c.zero_word-places.result < 2 ^ 24 = omega (arith, F.short, pow_mono (whole-short 24 c.args.reading.now)) in
    subst (λ (w : ℕ). Decides w (whole 24 c.args.reading.now) (decision_answer c.decide.result)) (mod-eq_of_lt short) c.decide.ensures

pub returns-then-ones-gt4 : goal.returns-then-ones-gt4
returns-then-ones-gt4 c = many_unsettled (omega (arith, counted (goal.at.returns-then-ones-gt4 c).After-ones))

pub returns-in_err-codeword : goal.returns-in_err-codeword
returns-in_err-codeword c =
    let k = (goal.at.returns-in_err-codeword c).After-decide in
    let o = c.in_err-codeword.ensures in
    let p = err_from_is_err_and c.from_residual.result c.from_residual.ensures.1 in
    let q : c.in_err-codeword.field-0.0 ≡ Unsettled = cc (o.value ∙ ap (λ d. ok_or d Unsettled) o.ok_part) in
    rw (p.1, p.2, q) (tied-unsettled (highest k) (rw o.ok_part at (first k)))

pub all_give-requires : goal.all_give-requires
all_give-requires c = record {
  signs = c.sign_word-least.ensures.0;
  zeros = c.zero_word-places.ensures.0;
  decided = let o = c.in_ok-codeword.ensures in rw o.ok_part at (first (goal.at.all_give-requires c).After-decide);
}

pub returns-then-all_give : goal.returns-then-all_give
returns-then-all_give c = all_settled (omega (arith, counted (goal.at.returns-then-all_give c).After-ones)) c.if-all_give.ensures

pub returns-else-all_give : goal.returns-else-all_give
returns-else-all_give c =
    let k = (goal.at.returns-else-all_give c).After-decide in
    let o = c.in_ok-codeword.ensures in
    not-all-unsettled (highest k) (rw o.ok_part at (first k)) c.if-all_give.ensures
