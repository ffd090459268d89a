-- Rules 12.5 to 12.8: what the numbers of records tell.
use Rattle.std.specs.Prelude.{ℕ, ◌+◌, ◌-◌, ◌%◌, ◌^◌, cond, List, [], ◌∷◌, Option, None, Some, ◌==◌, nat_le}
use Rattle.sequence.specs.declared.kinds.Follows.{Follows}
use Rattle.sequence.specs.declared.kinds.Follows.TheVariants.{Unnumbered, Lost, Repeat, Late}

-- Rule 12.5: how many counts lead from a number of 16 bits to another
abbrev pub step_from : ℕ → ℕ → ℕ
step_from from to = (to + (2 ^ 16 - from)) % 2 ^ 16

-- Rule 12.6, the table
abbrev pub told_by : ℕ → Follows
told_by step = cond (step == 0) Repeat (cond (nat_le step 32768) (Lost (step - 1)) Late)

-- Rule 12.6: a record after the previous number; where there is none yet, none were lost
abbrev pub follows_from : Option ℕ → Option ℕ → Follows
follows_from previous None = Unnumbered
follows_from None (Some to) = Lost 0
follows_from (Some from) (Some to) = told_by (step_from from to)

-- Rule 12.7: which of two numbers is the previous one then, the one before or the record's own
abbrev pub kept : Option ℕ → Option ℕ → Follows → Option ℕ
kept previous number Unnumbered = previous
kept previous number (Lost n) = number
kept previous number Repeat = number
kept previous number Late = previous

abbrev pub previous_after : Option ℕ → Option ℕ → Option ℕ
previous_after previous number = kept previous number (follows_from previous number)

-- Rules 12.6 and 12.7: what the numbers of new records tell, one after the other
unfoldable pub follows_all : Option ℕ → List ℕ → List Follows
follows_all previous [] = []
follows_all previous (n ∷ numbers) = follows_from previous (Some n) ∷ follows_all (previous_after previous (Some n)) numbers

-- Rule 12.8: losses alone; the steps that tell them, added up; the last of a first number and others
abbrev pub losses : List ℕ → List Follows
losses [] = []
losses (n ∷ lost) = Lost n ∷ losses lost

abbrev pub steps_of : List ℕ → ℕ
steps_of [] = 0
steps_of (n ∷ lost) = n + 1 + steps_of lost

abbrev pub last_of : ℕ → List ℕ → ℕ
last_of first [] = first
last_of first (n ∷ numbers) = last_of n numbers
