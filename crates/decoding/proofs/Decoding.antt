-- There is a decoder, and one only; and what its answers may be.
-- Assumes nothing.
use mathlib.Core.Path.{◌≡◌, refl, sym, ap, ◌∙◌}
use mathlib.Core.Bool.{Bool, true, false}
use mathlib.Core.List.{List}
use Prim.Native.Nat.{ℕ, ◌≤◌, ◌<◌}
use lib.IntN.{ℤ}
use lib.Dec.{eqb, lit<}
use lib.ListN.{length}
use borrow.Author.Tests.{eqb-true, not-false}
use Rattle.contest.specs.Answers.{Answers}
use Rattle.contest.specs.Answers as contest
use Rattle.contest.proofs.Bounds.{own_range}
use Rattle.contest.proofs.Reserve.{reserve_positive}
use Rattle.code.specs.Code.{messages, positions}
use Rattle.golay.specs.declared.kinds.Refusal.TheVariants.{WrongLength, MostNegative}
use Rattle.golay.specs.Answers.{Answer, accepted, refused, Refuse}
use Rattle.golay.specs.Calls.{wrong_length}
use Rattle.reading.specs.Cases.{all_ones, all_zeros}
use Rattle.reading.specs.Checks.{most_negative}
use Rattle.classes.specs.Codewords.{word}
use Rattle.classes.proofs.Codewords.{family}
use Rattle.soft.specs.declared.kinds.Soft.{Soft}
use Rattle.soft.specs.Calls.{told, Decides, SoftRule}
use Rattle.soft.proofs.Cases.{ones-answered, zeros-refused}
use Rattle.soft.proofs.Decided.{soft-once, soft_exists}
use Rattle.decoding.specs.Decoding.{message_and_reserve, Decoder}

pub a_decoder : (decode : List ℤ → Answer (ℕ × ℕ)) × Decoder decode
a_decoder = (
  λ xs. message_and_reserve (soft_exists xs).0,
  record { soft = λ xs. (soft_exists xs).0; allowed = λ xs. (soft_exists xs).1; told = λ xs. refl },
)

module _ (decode : List ℤ → Answer (ℕ × ℕ)) (D : Decoder decode) where
  pub tells : (xs : List ℤ) (a : Answer Soft) → SoftRule xs a → decode xs ≡ message_and_reserve a
  tells xs a r = D.told xs ∙ ap message_and_reserve (soft-once xs (D.soft xs) a (D.allowed xs) r)

  -- Rule 16.6: the worked readings of captures
  pub ones_decoded : decode all_ones ≡ accepted (0, 8)
  ones_decoded = D.told all_ones ∙ ap message_and_reserve (ones-answered (D.soft all_ones) (D.allowed all_ones))

  pub zeros_decoded : decode all_zeros ≡ refused 6
  zeros_decoded = D.told all_zeros ∙ ap message_and_reserve (zeros-refused (D.soft all_zeros) (D.allowed all_zeros))

pub one_decoder : (f g : List ℤ → Answer (ℕ × ℕ)) → Decoder f → Decoder g → (xs : List ℤ) → f xs ≡ g xs
one_decoder f g F G xs = tells f F xs (G.soft xs) (G.allowed xs) ∙ sym (G.told xs)

-- what an answer to some reading may be: a message with a reserve of 1 or more, or one of three refusals
pub data Possible : Answer (ℕ × ℕ) → Type 0 where
  taken : (m ρ : ℕ) → m < messages → 1 ≤ ρ → Possible (accepted (m, ρ))
  wrong_length_lem : Possible (refused 1)
  most-negative : Possible (refused 2)
  tied : Possible (refused 6)

-- the message of an answer, and 0 where there is none
abbrev message_in : Answer (ℕ × ℕ) → ℕ
message_in (accepted x) = x.0
message_in (refused n) = 0

module _ (xs : List ℤ) where
  decided_possible : length xs ≡ positions → (a : Answer Soft) → Decides xs a → Possible (message_and_reserve a)
  decided_possible l a d = rw d.is (go d.outcome d.answers)
    where
      go : (p : contest.Answer) → Answers messages word xs p → Possible (message_and_reserve (told xs p))
      go (contest.accepted m ρ) q = taken m ρ q.known (reserve_positive family (record { long = l; range = own_range xs }) q)
      go contest.tied q = tied

  pub soft_possible : (a : Answer Soft) → SoftRule xs a → Possible (message_and_reserve a)
  unfolding SoftRule
  soft_possible a r = go (wrong_length positions xs) (most_negative xs) refl r
    where
      go : (w m : Bool) → wrong_length positions xs ≡ w → Refuse WrongLength w (Refuse MostNegative m (Decides xs)) a → Possible (message_and_reserve a)
      go true m e p = rw p wrong_length_lem
      go false true e p = rw p most-negative
      go false false e p = decided_possible (eqb-true (length xs) 24 (not-false (eqb (length xs) 24) e)) a p

pub decoder_possible : (decode : List ℤ → Answer (ℕ × ℕ)) → Decoder decode → (xs : List ℤ) → Possible (decode xs)
decoder_possible decode D xs = rw (D.told xs) (soft_possible xs (D.soft xs) (D.allowed xs))

-- what is possible of an answer with a message: the message is one
known-message : (a : Answer (ℕ × ℕ)) → Possible a → message_in a < messages
known-message a (taken m ρ known positive) = known
known-message a wrong_length_lem = lit< tt
known-message a most-negative = lit< tt
known-message a tied = lit< tt

pub accepted-message : (xs : List ℤ) (s : Soft) → SoftRule xs (accepted s) → s.message.0 < messages
accepted-message xs s r = known-message (message_and_reserve (accepted s)) (soft_possible xs (accepted s) r)
