-- Rule 5.7: the six candidates of a word at distance 4 from the code, the least first.
use Rattle.std.specs.Prelude.{◌≡◌, ℕ, ◌<◌, T, length}
use mathlib.Core.List.{List, [], ◌∷◌, Memᴰ}
use Rattle.binary.specs.Words.{ones, distance}
use Rattle.code.specs.Code.{words, is_codeword, syndrome_of}
use Rattle.patterns.specs.Patterns.{IsPattern}

infix 50 ◌∈◌
abbrev pub ◌∈◌ : ℕ → List ℕ → Type 0
c ∈ cs = Memᴰ c cs

-- each is below all that follow
abbrev pub Ascending : List ℕ → Type 0
Ascending [] = Unit {0}
Ascending (c ∷ cs) = ((d : ℕ) → d ∈ cs → c < d) × Ascending cs

-- Rule 5.7: a codeword at distance 4 from a word
pub record Candidate (word c : ℕ) : Type 0 where
  pub short : c < words
  pub codeword : T (is_codeword c)
  pub apart : distance 24 word c ≡ 4

-- Rule 5.7: all candidates of a word, which are six, the least first
pub record Candidates (word : ℕ) (cs : List ℕ) : Type 0 where
  pub six : length cs ≡ 6
  pub ascending : Ascending cs
  pub each : (c : ℕ) → c ∈ cs → Candidate word c
  pub every : (c : ℕ) → Candidate word c → c ∈ cs

-- Rule 5.4: a word at distance 4 from the code, and its syndrome
pub record AtFour (word s : ℕ) : Type 0 where
  pub within : word < words
  pub syndrome : s ≡ syndrome_of word
  pub pattern : ℕ
  pub rule : IsPattern s pattern
  pub four : ones 24 pattern ≡ 4
