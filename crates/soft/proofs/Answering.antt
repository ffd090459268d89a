-- The answer from the two largest correlations: tied where they are the same, else accepted with half their difference, which is whole.
use mathlib.Core.Path.{◌≡◌, refl, ap, ◌∙◌}
use mathlib.Core.List.{List}
use Prim.Native.Nat.{ℕ, ◌<◌}
use lib.IntN.{ℤ, pos, ◌-ℤ◌}
use lib.Signed.{quot_z, ◌≤ℤ◌, ◌<ℤ◌}
use Rattle.signed.proofs.Parts.{ints}
use Rattle.signed.proofs.Bounds.{quot_double}
use Rattle.contest.specs.Readings.{Reading, scores}
use Rattle.contest.specs.Largest.{Best}
use Rattle.contest.specs.Answers.{accepted, tied}
use Rattle.contest.specs.declared.Keeper.{Keeper}
use Rattle.contest.proofs.Span.{behind}
use Rattle.contest.proofs.Decided.{settled, settled-tied}
use Rattle.contest.proofs.Reserve.{score_size}
use Rattle.code.specs.Code.{messages, codeword_of}
use Rattle.golay.specs.declared.kinds.Codeword.{Codeword}
use Rattle.golay.specs.Answers.{refused}
use Rattle.golay.specs.Answers as golay
use Rattle.golay.specs.Calls.{encode_rule}
use Rattle.golay.proofs.Rules.{encode-within}
use Rattle.classes.specs.Codewords.{word}
use Rattle.classes.proofs.Codewords.{family}
use Rattle.details.specs.Details.{Tops}
use Rattle.soft.specs.Calls.{values, Decides}
use Rattle.soft.specs.Keepers.{Wide}

-- ---- the codeword of the winner's message

module _ {m : ℕ} (h : m < messages) where
  pub encoded : {w : Codeword} → golay.accepted w.0 ≡ encode_rule m → w ≡ record { 0 = codeword_of m }
  encoded {w} e =
      let p : golay.accepted w.0 ≡ golay.accepted (codeword_of m) = e ∙ encode-within m h in
      let q : w.0 ≡ codeword_of m = cc in
      ap (λ (n : ℕ). record { 0 = n }) q

  pub not-refused : {A : Type 0} {n : ℕ} → refused n ≡ encode_rule m → A
  not-refused {A} {n} e = let p : refused n ≡ golay.accepted (codeword_of m) = e ∙ encode-within m h in cc

-- ---- the answer

same-values : (xs : List ℤ) (m ρ : ℕ) {w : Codeword} {c r : ℤ} → w ≡ record { 0 = codeword_of m } → c ≡ scores word xs m → r ≡ pos ρ
    → record { message = record { 0 = m }; codeword = w; correlation = c; reserve = r } ≡ values xs m ρ
same-values xs m ρ e f g = rw (e, f, g) refl

module _ {xs : List ℤ} {b s : ℤ} {m : ℕ} (A : Best (scores word xs) 0 messages b s m) where
  pub answer-tied : b ≤ℤ s → Decides xs (refused 6)
  answer-tied h = let g = behind A in record { outcome = tied; answers = settled-tied A (omega ints); is = refl }

  pub answer-accepted : {B : ℕ} → Reading B 24 xs → s <ℤ b → {w : Codeword} {c r : ℤ}
      → w ≡ record { 0 = codeword_of m } → c ≡ b → r ≡ quot_z (b -ℤ s) (pos 2)
      → Decides xs (golay.accepted (record { message = record { 0 = m }; codeword = w; correlation = c; reserve = r }))
  answer-accepted X d e f g =
      let a = settled family X A d in
      record {
        outcome = accepted m a.0;
        answers = a.2;
        is = ap golay.accepted (same-values xs m a.0 e (f ∙ A.best) (g ∙ ap (λ (z : ℤ). quot_z z (pos 2)) a.1 ∙ quot_double a.0));
      }

-- what is held of a reading's correlations
pub wide : {xs : List ℤ} → Reading 2147483647 24 xs → {t : Keeper} → Tops (scores word xs) 0 messages t → Wide t
wide X A = record {
  best = rw A.best (score_size family X A.largest.below);
  second = rw A.second (score_size family X A.next.below);
  at = A.largest.below;
}
