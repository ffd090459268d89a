-- Rule 13.8: what the line of a record ends with.
use Rattle.std.specs.Prelude.{List, [], ◌++◌, ℕ}
use Rattle.sequence.specs.declared.kinds.Follows.{Follows}
use Rattle.sequence.specs.declared.kinds.Follows.TheVariants.{Unnumbered, Lost, Repeat, Late}
use Rattle.texts.specs.Ascii.{ascii}
use Rattle.texts.specs.Texts.{decimal, line_feed}

-- Rule 13.8: what the line of a record has more, as in "0 8 1" or "refused 6 late"
abbrev pub suffix : Follows → List ℕ
suffix Unnumbered = []
suffix (Lost n) = ascii " " ++ decimal n
suffix Repeat = ascii " repeat"
suffix Late = ascii " late"

-- Rules 13.1 and 13.8
abbrev pub end_of : Follows → List ℕ
end_of follows = suffix follows ++ line_feed

-- the most bytes that it takes: " repeat" and a line feed
abbrev pub longest_end : ℕ
longest_end = 8
