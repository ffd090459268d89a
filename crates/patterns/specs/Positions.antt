-- Rule 5.9: what a list of positions means as a word, and how an error pattern is stored as four of them.
use Rattle.std.specs.Prelude.{◌≡◌, ◌⊎◌, cond, List, [], ◌∷◌, ℕ, zero, suc, ◌+◌, ◌*◌, ◌/◌, ◌%◌, ◌^◌, ◌≤◌, ◌<◌, eqb, get_or}
use Rattle.code.specs.Code.{positions, words}
use Rattle.patterns.specs.Patterns.{IsPattern}

-- Rule 5.9: what stands for no position
abbrev pub none : ℕ
none = 31

-- Rules 1.2 and 5.9: what a position counts in a word, and 0 for what is past the last position, as none is
abbrev pub worth : ℕ → ℕ
worth position = words / 2 ^ position

-- Rule 5.9: the word that has its ones at these positions: what they count, added up
abbrev pub spread : List ℕ → ℕ
spread [] = 0
spread (p ∷ ps) = worth p + spread ps

-- Rule 5.9: how many of them are not none
abbrev pub count : List ℕ → ℕ
count [] = 0
count (p ∷ ps) = cond (eqb p none) 0 1 + count ps

-- Rule 5.9: each is a position past the one before it, or none; so after none there is none but none
abbrev pub InOrder : ℕ → List ℕ → Type 0
InOrder before [] = Unit {0}
InOrder before (p ∷ ps) = (((before < p) × (p ≤ positions)) ⊎ (p ≡ none)) × InOrder p ps

-- Rule 5.9: the n lowest fields of five bits of a number, the highest first
abbrev pub fields : ℕ → ℕ → List ℕ
fields zero entry = []
fields (suc n) entry = entry / 32 ^ n % 32 ∷ fields n entry

-- how many of the n lowest fields of a number stand before those at the end that hold none
abbrev pub held : ℕ → ℕ → ℕ
held zero entry = 0
held (suc n) entry = cond (eqb (entry % 32) none) (held n (entry / 32)) (suc n)

-- Rule 5.9: a number of 20 bits, whose four fields are the positions of the pattern of a syndrome (5.2)
pub record Stored (s entry : ℕ) : Type 0 where
  pub short : entry < 32 ^ 4
  pub order : InOrder 0 (fields 4 entry)
  pub rule : IsPattern s (spread (fields 4 entry))

-- Rule 15.8: entry k of the four that two numbers hold from their lowest bits up, 16 bits each in one and the four above them in the other
abbrev pub entry_at : ℕ → ℕ → ℕ → ℕ
entry_at low high k = high / 2 ^ (k * 4) % 16 * 65536 + low / 2 ^ (k * 16) % 65536

-- Rule 15.8: a table of them: those of so many syndromes from the first on
pub record AreStored (first count : ℕ) (lows highs : List ℕ) : Type 0 where
  pub each : (k : ℕ) → k < count → Stored (first + k) (entry_at (get_or lows (k / 4) 0) (get_or highs (k / 4) 0) (k % 4))
