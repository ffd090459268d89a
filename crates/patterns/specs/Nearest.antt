-- Rule 5.4: what a word's distance from the code is, with no table: the least distance to any codeword.
use Rattle.std.specs.Prelude.{◌≡◌, ℕ, ◌≤◌, ◌<◌, T}
use Rattle.binary.specs.Words.{distance}
use Rattle.code.specs.Code.{words, is_codeword}

-- Rule 5.4: c is a codeword at distance d from a word, and no codeword is nearer
pub record Nearest (word c d : ℕ) : Type 0 where
  pub short : c < words
  pub codeword : T (is_codeword c)
  pub apart : distance 24 word c ≡ d
  pub least : (other : ℕ) → other < words → T (is_codeword other) → d ≤ distance 24 word other
