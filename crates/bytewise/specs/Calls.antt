-- Rules 10.2, 10.3 and 11.3: what each call answers, for every input, its refusals in the order of rule 11.2.
use Rattle.std.specs.Prelude.{◌≡◌, not, List, ℕ}
use Rattle.code.specs.Code.{is_codeword}
use Rattle.golay.specs.declared.kinds.Refusal.TheVariants.{WrongLength, WordAbove, NotCodeword}
use Rattle.golay.specs.Answers.{Answer, accepted, refuse}
use Rattle.golay.specs.Bytes.{word_of}
use Rattle.golay.specs.Calls.{word_above, wrong_length}
use Rattle.bytewise.specs.Answers.{lent}
use Rattle.bytewise.specs.Bytes.{bytes_of}

-- Rule 11.3, write bytes: 1, then 4, then 5, or no refusal
unfoldable pub write_bytes_rule : ℕ → List ℕ → Answer (Unit {0})
write_bytes_rule word buffer =
    refuse WrongLength (wrong_length 3 buffer)
    (refuse WordAbove (word_above word) (refuse NotCodeword (not (is_codeword word)) (accepted tt)))

-- Rules 10.2 and 11.5: the answer, and the buffer's contents before and after the call
pub record WritesBytes (word : ℕ) (before : List ℕ) (answer : Answer (Unit {0})) (after : List ℕ) : Type 0 where
  pub answered : answer ≡ write_bytes_rule word before
  pub buffer : after ≡ lent answer before (bytes_of word)

-- Rule 11.3, read bytes: 1, then 5, or the codeword (10.3)
unfoldable pub read_bytes_rule : List ℕ → Answer ℕ
read_bytes_rule bytes =
    refuse WrongLength (wrong_length 3 bytes) (refuse NotCodeword (not (is_codeword (word_of bytes))) (accepted (word_of bytes)))
