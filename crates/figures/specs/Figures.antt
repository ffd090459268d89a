-- What the scan of the 128 figures (8.4) promises, over the 48 sums and their codes.
use Rattle.std.specs.Prelude.{◌≡◌, List, ℕ, ◌+◌, ◌*◌, ◌/◌, ◌%◌, ◌≤◌, ◌<◌, min, eqb, ℤ, pos, ◌-ℤ◌, get_or}
use Rattle.contest.specs.Kept.{lowest, Kept, run}
use Rattle.contest.specs.declared.Keeper.{Keeper}
use Rattle.contest.specs.Figures.{code}
use Rattle.code.specs.Characters.{fourth, fifth, sixth}
use Rattle.classes.specs.Classes.{parity_of, characters_of, reached_of}
use Rattle.columns.specs.Columns.{place, picks}
use Rattle.pairs.specs.Pairs.{widest}

-- Rules 8.4 and 8.5: the figure of class k, as the 48 sums s reach it
unfoldable pub reached_from : List ℤ → ℕ → ℤ
reached_from s k = reached_of (eqb (parity_of k) 1) (picks s (parity_of k) (characters_of k))

-- ---- the codes of the sums

-- z is the code that belongs at place j
pub record CodeAt (s : List ℤ) (j : ℕ) (z : ℕ) : Type 0 where
  pub value : z ≡ code (get_or s j (pos 0))
  pub bound : z ≤ widest

-- e has the codes of the sums s
pub record Codes (s : List ℤ) (e : List ℕ) : Type 0 where
  pub codes : (j : ℕ) → j < 48 → get_or e j 0 ≡ code (get_or s j (pos 0))
  pub within : (j : ℕ) → get_or e j 0 ≤ widest

-- ---- how large two codes get together

abbrev pub Usable : List ℕ → Type 0
Usable r = (j : ℕ) → get_or r j 0 ≤ 2 * widest

-- ---- the pairs of class k

abbrev pub middle_of : ℕ → ℕ
middle_of k = parity_of k * 16 + k % 4 * 4 + fourth (k / 16 % 4) (k / 4 % 4) (k % 4)

abbrev pub last_of : ℕ → ℕ
last_of k = 32 + parity_of k * 16 + fifth (k / 16 % 4) (k / 4 % 4) (k % 4) * 4 + sixth (k / 16 % 4) (k / 4 % 4) (k % 4)

-- ---- Rule 8.4: the figure, of the sum of a class's codes and its parity, and of its least code

abbrev pub scored : ℕ → ℕ → ℤ
scored s l = pos (s / 8) -ℤ pos (2 * (l / 8) * (s % 2))

-- from the first two columns, and the other pairs
unfoldable pub figure_from : List ℕ → List ℕ → ℕ → ℕ → ℕ → ℤ
figure_from sums leasts sum least k =
    scored (sum + get_or sums (middle_of k) 0 + get_or sums (last_of k) 0) (min (get_or leasts (last_of k) 0) (min (get_or leasts (middle_of k) 0) least))

-- from six codes
abbrev pub figure_of : ℕ → ℕ → ℕ → ℕ → ℕ → ℕ → ℕ → ℤ
figure_of p a b c d e f = scored (a + b + p + (c + d) + (e + f)) (min (min e f) (min (min c d) (min a b)))

-- that of class k, from all 48
unfoldable pub figure_at : List ℕ → ℕ → ℤ
figure_at e k =
    figure_of (parity_of k)
    (get_or e (place 0 (parity_of k) (k / 16 % 4)) 0)
    (get_or e (place 1 (parity_of k) (k / 4 % 4)) 0)
    (get_or e (place 2 (parity_of k) (k % 4)) 0)
    (get_or e (place 3 (parity_of k) (fourth (k / 16 % 4) (k / 4 % 4) (k % 4))) 0)
    (get_or e (place 4 (parity_of k) (fifth (k / 16 % 4) (k / 4 % 4) (k % 4))) 0)
    (get_or e (place 5 (parity_of k) (sixth (k / 16 % 4) (k / 4 % 4) (k % 4))) 0)

-- ---- what is kept of the first n figures; of none, the least i64 twice

pub record KeptUpTo (f : ℕ → ℤ) (n : ℕ) (t : Keeper) : Type 0 where
  pub none : n ≡ 0 → t ≡ record { best = lowest; second = lowest; at = 0 }
  pub some : 1 ≤ n → Kept (run f n) t
