-- Rules 5.2 and 15.2: the error pattern of a syndrome, and a table of them.
use Rattle.std.specs.Prelude.{◌≡◌, List, ℕ, ◌+◌, ◌≤◌, ◌<◌, length, get_or}
use Rattle.binary.specs.Words.{ones}
use Rattle.code.specs.Code.{words, syndrome_of}

-- Rule 5.2: a word of this syndrome; none has fewer ones, and of those with as many none is a lesser number
pub record IsPattern (s pattern : ℕ) : Type 0 where
  pub word : pattern < words
  pub syndrome : syndrome_of pattern ≡ s
  pub fewest : (e : ℕ) → e < words → syndrome_of e ≡ s → ones 24 pattern ≤ ones 24 e
  pub smallest : (e : ℕ) → e < words → syndrome_of e ≡ s → ones 24 e ≡ ones 24 pattern → pattern ≤ e

-- Rule 15.2: a list of them: those of so many syndromes from the first on
pub record ArePatterns (first count : ℕ) (list : List ℕ) : Type 0 where
  pub size : length list ≡ count
  pub each : (k : ℕ) → k < count → IsPattern (first + k) (get_or list k 0)
