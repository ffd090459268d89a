-- Rules 13.1 and 13.6: what the lines are made of: words, numbers in decimal digits, and a line feed.
use Rattle.std.specs.Prelude.{cond, List, ◌++◌, ℕ, zero, suc, ◌/◌, ltb}
use Rattle.io.specs.Digits.{last_digits}
use Rattle.texts.specs.Ascii.{ascii}

-- how many digits n has, where fuel is no less than n
abbrev pub places_in : ℕ → ℕ → ℕ
places_in zero n = 1
places_in (suc fuel) n = cond (ltb n 10) 1 (suc (places_in fuel (n / 10)))

-- Rule 13.6: as many decimal digits as n has, so no zero stands in front
unfoldable pub decimal : ℕ → List ℕ
decimal n = last_digits 10 (places_in n n) n

-- Rule 13.1: what every line ends with
abbrev pub line_feed : List ℕ
line_feed = ascii "\n"

-- a line of one number, and a line of two, after their words, and what the line ends with
abbrev pub line_of : List ℕ → ℕ → List ℕ → List ℕ
line_of word n end = word ++ decimal n ++ end

abbrev pub line_of_two : List ℕ → ℕ → List ℕ → ℕ → List ℕ → List ℕ
line_of_two word m between n end = word ++ decimal m ++ between ++ decimal n ++ end
