-- Rule 11.3, soft, as a function: the soft decoder's answer to every reading, by message and reserve.
use Rattle.std.specs.Prelude.{◌≡◌, List, ℕ, ℤ, nat_abs}
use Rattle.golay.specs.Answers.{Answer, accepted, refused}
use Rattle.soft.specs.declared.kinds.Soft.{Soft}
use Rattle.soft.specs.Calls.{SoftRule}

-- Rules 13.3, 13.4 and 18.2: message and reserve, or the number. A reserve is 1 or more (7.3), so its size is the number itself.
abbrev pub message_and_reserve : Answer Soft → Answer (ℕ × ℕ)
message_and_reserve (accepted s) = accepted (s.message.0, nat_abs s.reserve)
message_and_reserve (refused n) = refused n

-- Rule 11.3, soft: an answer to every reading, and each is one that the soft decoder's promise allows. There is such a decoder, and one
-- only: `a_decoder` and `one_decoder`, proofs/Decoding.antt
pub record Decoder (decode : List ℤ → Answer (ℕ × ℕ)) : Type 0 where
  pub soft : List ℤ → Answer Soft
  pub allowed : (xs : List ℤ) → SoftRule xs (soft xs)
  pub told : (xs : List ℤ) → decode xs ≡ message_and_reserve (soft xs)
