-- Three of the worked readings of rule 16.6: 24 ones, 24 zeros, and one strong confidence against 23 weak ones.
use Rattle.std.specs.Prelude.{List, ◌∷◌, ℤ, pos, negsuc, replicate}
use Rattle.code.specs.Code.{positions}

-- Rule 16.6: all 1
abbrev pub all_ones : List ℤ
all_ones = replicate positions (pos 1)

-- Rule 16.6: all 0
abbrev pub all_zeros : List ℤ
all_zeros = replicate positions (pos 0)

-- Rule 16.6: position 1 is -100, the rest 1
abbrev pub one_against : List ℤ
one_against = negsuc 99 ∷ replicate 23 (pos 1)
