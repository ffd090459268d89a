-- Rules 13.7 and 13.9: the worked captures, and their outputs.
use Rattle.std.specs.Prelude.{◌≡◌, List, [], ◌∷◌, ℕ, ℤ}
use Rattle.golay.specs.Answers.{Answer}
use Rattle.texts.specs.Ascii.{ascii}
use Rattle.records.specs.Worked.{worked_capture, worked_numbered}
use Rattle.run.specs.Output.{output}

-- a capture, and its whole output
pub record Case : Type 0 where
  pub capture : List ℕ
  pub text : List ℕ

-- Rule 13.7
abbrev pub worked : Case
worked = record { capture = worked_capture; text = ascii "message reserve\n0 8\nrefused 6\nstopped 10 at 196\n" }

-- Rule 13.9
abbrev pub worked_numbers : Case
worked_numbers = record { capture = worked_numbered; text = ascii "message reserve\n0 8 0\n0 8 1\n0 8 repeat\n0 8 late\n" }

unfoldable pub cases : List Case
cases = worked ∷ worked_numbers ∷ []

-- each gives its text
abbrev pub AllHold : (List ℤ → Answer (ℕ × ℕ)) → List Case → Type 0
AllHold decode [] = Unit {0}
AllHold decode (c ∷ cs) = (output decode c.capture ≡ c.text) × AllHold decode cs
