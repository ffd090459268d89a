-- Rule 18.7: the worked sheet.
use Rattle.std.specs.Prelude.{List, ℕ}
use Rattle.texts.specs.Ascii.{ascii}

abbrev pub worked_sheet : List ℕ
worked_sheet = ascii "read 2\naccepted 1\nrefused 2 0\nrefused 6 1\nmessage 0 1\nsmallest 8\ntotal 8\n"
