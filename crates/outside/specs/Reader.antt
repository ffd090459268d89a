-- What the programs know of who reads what they write, and of whether it is shown how far they have come.
use Rattle.std.specs.Prelude.{◌≡◌, true}
use Rattle.outside.specs.declared.kinds.System.{System}

-- a reader who is gone stays gone
abbrev pub Stays : System → System → Type 0
Stays before after = before.unread ≡ true → after.unread ≡ true

-- and whether progress is shown stays as it was
abbrev pub StaysShown : System → System → Type 0
StaysShown before after = Stays before after × (after.shows ≡ before.shows)
