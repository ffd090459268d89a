-- Rules 13.2 to 13.5 and 13.8: the text of each line, its line feed included.
use Rattle.std.specs.Prelude.{List, ℕ}
use Rattle.golay.specs.Answers.{Answer, accepted, refused}
use Rattle.sequence.specs.declared.kinds.Follows.{Follows}
use Rattle.texts.specs.Ascii.{ascii}
use Rattle.texts.specs.Texts.{line_feed, line_of, line_of_two}
use Rattle.suffixes.specs.Suffixes.{end_of}

-- Rule 13.2: the header
abbrev pub header : List ℕ
header = ascii "message reserve\n"

-- Rules 13.3 and 13.8, as in "0 8"
abbrev pub accepted_line : ℕ → ℕ → Follows → List ℕ
accepted_line message reserve follows = line_of_two (ascii "") message (ascii " ") reserve (end_of follows)

-- Rules 13.4 and 13.8, as in "refused 6"
abbrev pub refused_line : ℕ → Follows → List ℕ
refused_line number follows = line_of (ascii "refused ") number (end_of follows)

-- Rule 13.5, as in "stopped 10 at 196"
abbrev pub stopped_line : ℕ → ℕ → List ℕ
stopped_line number offset = line_of_two (ascii "stopped ") number (ascii " at ") offset line_feed

-- Rules 13.3, 13.4 and 13.8: the line of an answer: message and reserve, or the number of the refusal, and how the record follows
abbrev pub answer_line : Answer (ℕ × ℕ) → Follows → List ℕ
answer_line (accepted x) follows = accepted_line x.0 x.1 follows
answer_line (refused n) follows = refused_line n follows

-- the most bytes that a line takes: ten digits, a space, twenty digits, " repeat" and a line feed
abbrev pub longest : ℕ
longest = 39
