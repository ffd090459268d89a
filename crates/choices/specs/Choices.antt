-- Rules 17.3 and 17.4: the choice between two answers, by their reserves, and its number.
use Rattle.std.specs.Prelude.{cond, ℕ, ℤ}
use Rattle.std.specs.Int.Signed.{le_z}
use Rattle.golay.specs.Answers.{Answer, accepted, refused}
use Rattle.soft.specs.declared.kinds.Soft.{Soft}
use Rattle.choices.specs.declared.kinds.Choice.{Choice}
use Rattle.choices.specs.declared.kinds.Choice.TheVariants.{First, Second, Neither}

-- Rules 15.5 and 17.4: each choice by its number
abbrev pub receiver : Choice → ℕ
receiver First = 1
receiver Second = 2
receiver Neither = 0

-- Rule 17.3: the reserve of an accepted reading; a refused one has none
abbrev pub reserve_of : Answer Soft → Answer ℤ
reserve_of (accepted s) = accepted s.reserve
reserve_of (refused n) = refused n

-- Rule 17.3: of two reserves the larger, the first where they are equal; the one that there is; or neither
abbrev pub preferred : Answer ℤ → Answer ℤ → ℕ
preferred (accepted r) (accepted s) = cond (le_z s r) 1 2
preferred (accepted r) (refused n) = 1
preferred (refused m) (accepted s) = 2
preferred (refused m) (refused n) = 0
