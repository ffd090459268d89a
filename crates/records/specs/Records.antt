-- Rules 12.1, 12.3 and 12.9: what stands at a record's start, as a function of the bytes that are left there.
use Rattle.std.specs.Prelude.{Bool, true, false, cond, ◌&&◌, List, [], ◌∷◌, Option, None, Some, ℕ, zero, suc, ◌+◌, ◌^◌, leb, ltb, eqb, ℤ, pos, ◌-ℤ◌, length, take, drop, replicate}
use Rattle.code.specs.Code.{positions}
use Rattle.golay.specs.Refusals.{number}
use Rattle.golay.specs.Bytes.{word_of}
use Rattle.golay.specs.declared.kinds.Refusal.TheVariants.{NoMark, CutShort}
use Rattle.records.specs.declared.kinds.Stands.{Stands}
use Rattle.records.specs.declared.kinds.Stands.TheVariants as stands

-- Rule 12.1: the two marks
abbrev pub is_old_mark : ℕ → ℕ → Bool
is_old_mark a b = eqb a 0x49 && eqb b 0x43

abbrev pub is_new_mark : ℕ → ℕ → Bool
is_new_mark a b = eqb a 0x49 && eqb b 0x44

-- Rule 12.1: what a record holds: its number, where it is a new one, and its reading
pub record Record : Type 0 where
  pub number : Option ℕ
  pub reading : List ℤ

-- Rule 12.1: mark and confidences, and between them the number
abbrev pub old_length : ℕ
old_length = 98

abbrev pub new_length : ℕ
new_length = 100

abbrev pub length_with : Option ℕ → ℕ
length_with None = old_length
length_with (Some n) = new_length

abbrev pub record_length : Record → ℕ
record_length r = length_with r.number

-- Rule 12.1, two's complement: a number of 32 bits, less 2^32 where its top bit is set
unfoldable pub twos_complement : ℕ → ℤ
twos_complement word = cond (ltb word (2 ^ 31)) (pos word) (pos word -ℤ pos (2 ^ 32))

-- Rule 12.1: four bytes, the most significant in front
abbrev pub confidence_of : List ℕ → ℤ
confidence_of bytes = twos_complement (word_of (take 4 bytes))

-- Rule 12.1: the first n confidences that bytes hold, position 1 first
unfoldable pub confidences_of : ℕ → List ℕ → List ℤ
confidences_of zero bytes = []
confidences_of (suc n) bytes = confidence_of bytes ∷ confidences_of n (drop 4 bytes)

-- Rule 12.3: the end of the run, a stop with its refusal's number, or a whole record and what is told of it
pub data Standing (A : Type 0) : Type 0 where
  ended : Standing A
  stopped : ℕ → Standing A
  whole : A → Standing A

-- Rule 12.3: a record of which bytes are missing
abbrev pub unfinished : {A : Type 0} → Standing A
unfinished = stopped (number CutShort)

-- Rule 12.3: a record that needs so many bytes, where so many are left
abbrev pub of_length : {A : Type 0} → ℕ → ℕ → A → Standing A
of_length needed left r = cond (leb needed left) (whole r) unfinished

-- Rule 12.3: nothing is left, or one byte, or more; then the marks are looked at first, so a wrong one is 9 however few bytes there are
unfoldable pub standing : List ℕ → Standing Record
standing [] = ended
standing (a ∷ []) = unfinished
standing (a ∷ b ∷ rest) =
    cond (is_old_mark a b)
    (of_length old_length (2 + length rest) (record { number = None; reading = confidences_of positions rest }))
    (cond (is_new_mark a b)
    (of_length new_length (2 + length rest) (record { number = Some (word_of (take 2 rest)); reading = confidences_of positions (drop 2 rest) }))
    (stopped (number NoMark)))

-- Rule 12.3: what stands at a place of some bytes; past their end nothing is left
abbrev pub stands_at : List ℕ → ℕ → Standing Record
stands_at bytes at = standing (drop at bytes)

-- Rule 12.9: in a piece that is not the last one, a record of which bytes are missing is none yet
abbrev pub in_piece : Bool → Standing Record → Standing Record
in_piece last ended = ended
in_piece true (stopped n) = stopped n
in_piece false (stopped n) = cond (eqb n (number CutShort)) ended (stopped n)
in_piece last (whole r) = whole r

-- Rule 12.3: the place where the next starts, after a whole record
abbrev pub next_from : ℕ → Standing Record → Standing ℕ
next_from at ended = ended
next_from at (stopped n) = stopped n
next_from at (whole r) = whole (at + record_length r)

-- the confidences of a whole record; zeros where none stands
abbrev pub reading_of : Standing Record → List ℤ
reading_of ended = replicate positions (pos 0)
reading_of (stopped n) = replicate positions (pos 0)
reading_of (whole r) = r.reading

-- the number of a whole record
abbrev pub number_of : Standing Record → Option ℕ
number_of ended = None
number_of (stopped n) = None
number_of (whole r) = r.number

-- Rule 15.5: each case of the call's answer, by its number or its place
abbrev pub stands_answer : Stands → Standing ℕ
stands_answer stands.End = ended
stands_answer (stands.Record next) = whole next
stands_answer (stands.Stopped reason) = stopped (number reason)
