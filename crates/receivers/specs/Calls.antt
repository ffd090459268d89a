-- Rules 17.2 to 17.5: which of two receivers has the better reading with a number, and the part that is handed back.
use Rattle.std.specs.Prelude.{◌≡◌, Bool, cond, ◌&&◌, List, [], ℕ, eqb, ℤ}
use Rattle.std.specs.Borrow.{Bor}
use Rattle.golay.specs.Answers.{Answer}
use Rattle.buffers.specs.Buffers.{has_reading, reading_at, place_at}
use Rattle.soft.specs.declared.kinds.Soft.{Soft}
use Rattle.soft.specs.Calls.{SoftRule}
use Rattle.choices.specs.Choices.{reserve_of, preferred}

-- Rule 17.2: there is a pair of readings with this number
abbrev pub both_have : List ℤ → List ℤ → ℕ → Bool
both_have first second number = has_reading first number && has_reading second number

-- Rule 17.4: the choice, by an answer to each reading that the soft decoder's promise allows. There is one, and one only: `soft_exists` and
-- `soft-once`, soft/proofs/Decided.antt
pub record Chooses (first second : List ℤ) (number choice : ℕ) : Type 0 where
  pub one : Answer Soft
  pub other : Answer Soft
  pub one-allowed : SoftRule (reading_at first number) one
  pub other-allowed : SoftRule (reading_at second number) other
  pub is : choice ≡ cond (both_have first second number) (preferred (reserve_of one) (reserve_of other)) 0

-- Rule 17.5: what the part holds: the chosen receiver's reading, or nothing
abbrev pub part_of : List ℤ → List ℤ → ℕ → ℕ → List ℤ
part_of first second number choice = cond (eqb choice 1) (reading_at first number) (cond (eqb choice 2) (reading_at second number) [])

pub record Better (first second : List ℤ) (number : ℕ) (part : List ℤ) : Type 0 where
  pub choice : ℕ
  pub chooses : Chooses first second number choice
  pub is : part ≡ part_of first second number choice

-- Rules 15.9 and 17.5: where in memory the part begins, for two buffers that begin at these places: at the reading, or where the first buffer does
abbrev pub begins_at : ℕ × ℕ → ℕ × ℕ → ℕ → ℕ → ℕ × ℕ
begins_at first second number choice = cond (eqb choice 1) (place_at first number) (cond (eqb choice 2) (place_at second number) first)

-- Rules 15.9 and 17.5: the part that is handed back, which is lent on and not copied
pub record LendsBetter (first second : Bor (List ℤ)) (number : ℕ) (part : Bor (List ℤ)) : Type 0 where
  pub better : Better first.now second.now number part.now
  pub begins : part.ref_ptr ≡ begins_at first.ref_ptr second.ref_ptr number better.choice
