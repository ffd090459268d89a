-- Rules 9.1, 9.7 and 9.8: the quick decoder: what the fillings of a reading are decided for.
use Rattle.std.specs.Prelude.{◌≡◌, Bool, true, false, List, ℕ, zero, suc, ◌+◌, ◌≤◌, ℤ, Result}
use Rattle.code.specs.Code.{positions}
use Rattle.golay.specs.declared.kinds.Codeword.{Codeword}
use Rattle.golay.specs.declared.kinds.Refusal.{Refusal}
use Rattle.golay.specs.declared.kinds.Refusal.TheVariants.{WrongLength, MostNegative, Unsettled}
use Rattle.golay.specs.Refusals.{number}
use Rattle.golay.specs.Answers.{Answer, accepted, refused, Refuse, answer_of}
use Rattle.golay.specs.Calls.{wrong_length}
use Rattle.reading.specs.Checks.{most_negative}
use Rattle.signs.specs.Signs.{sign_word}
use Rattle.signs.specs.Fillings.{zeros, zero_word, Filling}
use Rattle.decision.specs.Decision.{Decides}

-- Rules 9.1 and 15.5: a codeword and nothing else, or the number
abbrev pub quick_answer : Result Codeword Refusal → Answer ℕ
quick_answer r = answer_of (λ codeword. codeword.0) r

-- Rule 9.8: there are four zeros or fewer, and every filling is decided for c
pub record Settled (xs : List ℤ) (c : ℕ) : Type 0 where
  pub few : zeros xs ≤ 4
  pub each : (word : ℕ) → Filling xs word → Decides word xs (accepted c)

-- Rule 9.8: the answer to a reading with zeros
pub data Settles (xs : List ℤ) : Answer ℕ → Type 0 where
  settled : {c : ℕ} → Settled xs c → Settles xs (accepted c)
  unsettled : ((c : ℕ) → Settled xs c → ⊥) → Settles xs (refused (number Unsettled))

-- Rules 9.7 and 9.8: the answer to a valid reading, by how many zeros it has: none, so that its word of signs decides, or some
abbrev pub Answers : ℕ → List ℤ → Answer ℕ → Type 0
Answers zero xs = Decides (sign_word xs) xs
Answers (suc z) xs = Settles xs

-- Rule 11.3, quick: 1, then 2, or what the fillings decide, 6 and 14 included
unfoldable pub QuickRule : List ℤ → Answer ℕ → Type 0
QuickRule xs = Refuse WrongLength (wrong_length positions xs) (Refuse MostNegative (most_negative xs) (Answers (zeros xs) xs))

-- Document 01's rule, for every reading: 1, then 2, or what the word of signs is decided for, 6 included. It is the quick decoder's where there
-- are no zeros.
unfoldable pub SignsRule : List ℤ → Answer ℕ → Type 0
SignsRule xs = Refuse WrongLength (wrong_length positions xs) (Refuse MostNegative (most_negative xs) (Decides (sign_word xs) xs))

-- the least filling, the places of the zeros, and that the filling with a 1 at each of them is decided for c
pub record Highest (c least places : ℕ) (xs : List ℤ) : Type 0 where
  pub signs : least ≡ sign_word xs
  pub zeros : places ≡ zero_word xs
  pub decided : Decides (least + places) xs (accepted c)

-- whether every filling is decided for c
pub record AllGive (c : ℕ) (xs : List ℤ) (r : Bool) : Type 0 where
  pub all : r ≡ true → (word : ℕ) → Filling xs word → Decides word xs (accepted c)
  pub not-all : r ≡ false → ((word : ℕ) → Filling xs word → Decides word xs (accepted c)) → ⊥
