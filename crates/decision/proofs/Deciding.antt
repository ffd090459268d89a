-- What correction and the choice among candidates say of a word, as the rule says it; what a comparison with a codeword says then; and how far a
-- word is from the codeword that it is decided for.
-- Assumes nothing.
use mathlib.Core.Path.{◌≡◌, refl, sym, subst}
use mathlib.Core.Bool.{false, false≢true}
use mathlib.Core.List.{List}
use Prim.Native.Nat.{ℕ, ◌≤◌, ◌<◌}
use native.Mathlib.Omega.{arith}
use lib.Dec.{eqb}
use lib.IntN.{ℤ}
use borrow.Author.Tests.{eqb-true, eqb-false}
use Rattle.binary.specs.Words.{distance}
use Rattle.code.specs.Code.{words}
use Rattle.std.specs.Prelude.{Option, Some, None}
use Rattle.std.specs.Option.{option_eq}
use Rattle.golay.specs.declared.kinds.Codeword.{Codeword}
use Rattle.golay.specs.Answers.{Answer, accepted, refused}
use Rattle.hard.specs.Answers.{Correction}
use Rattle.hard.specs.Calls.{Corrects}
use Rattle.hard.proofs.Meaning.{no_answer, correct-accepted}
use Rattle.decision.specs.Decision.{decision_answer, Chosen, alone, shared, Follows, Decides, Gives}
use Rattle.decision.proofs.Decided.{decided-same, tied-alone}

module _ {word : ℕ} {xs : List ℤ} where
  pub corrected_decides : {c : Correction} → Corrects word (accepted c) → Decides word xs (accepted c.codeword)
  corrected_decides {c} p = record { correction = accepted c; corrects = p; follows = refl }

  pub gives_compared : {c d : ℕ} → Decides word xs (accepted d) → Gives c word xs (eqb d c)
  gives_compared {c} {d} p = record {
    gives = λ e. subst (λ (k : ℕ). Decides word xs (accepted k)) (eqb-true d c e) p;
    gives-not = λ e q. eqb-false d c e (decided-same p q);
  }

  pub gives-tied : {c : ℕ} → Decides word xs (refused 6) → Gives c word xs false
  gives-tied p = record { gives = λ e. absurd (false≢true e); gives-not = λ e q. tied-alone p q }

  -- what a decision says when it is compared with that of c
  pub gives_decided : {c : Codeword} (d : Option Codeword) → Decides word xs (decision_answer d) → Gives c.0 word xs (option_eq (λ (x y : Codeword). eqb x.0 y.0) d (Some c))
  gives_decided (Some d) p = gives_compared p
  gives_decided None p = gives-tied p

-- ---- how far a word is from what it is decided for

-- a word of 24 bits, no more than four positions away
pub record Close (word c : ℕ) : Type 0 where
  pub short : c < words
  pub apart : distance 24 word c ≤ 4

pub decided-close : {word c : ℕ} {xs : List ℤ} → Decides word xs (accepted c) → Close word c
decided-close {word} {c} {xs} p = go p.correction p.corrects p.follows
  where
    chosen : (a : Answer ℕ) → Chosen word xs a → a ≡ accepted c → Close word c
    chosen a (alone {c = d} C) e =
        let same : d ≡ c = cc in
        subst (Close word) same (record { short = C.candidate.short; apart = omega (arith, C.candidate.apart) })
    chosen a (shared t) e = absurd (no_answer (sym e))

    go : (k : Answer Correction) → Corrects word k → Follows word xs k (accepted c) → Close word c
    go (accepted k) q f =
        let same : k.codeword ≡ c = cc in
        let N = correct-accepted q in
        subst (Close word) same (record { short = N.nearest.short; apart = omega (arith, N.nearest.apart, N.close) })
    go (refused n) q f = chosen (accepted c) f refl
