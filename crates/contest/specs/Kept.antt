-- What the keeper of the two largest holds, by the list of what it has seen, the latest first.
use Rattle.std.specs.Prelude.{◌≡◌, cond, ℕ, zero, suc, ℤ, negsuc, ◌≤ℤ◌, ◌<ℤ◌}
use mathlib.Core.List.{List, [], ◌∷◌, ◌++◌, Memᴰ}
use Rattle.std.specs.Int.Signed.{lt_z}
use Rattle.contest.specs.declared.Keeper.{Keeper}

-- a value, and where it was
pub record Seen : Type 0 where
  pub value : ℤ
  pub place : ℕ

abbrev pub seen : ℤ → ℕ → Seen
seen v p = record { value = v; place = p }

abbrev pub values : List Seen → List ℤ
values [] = []
values (s ∷ l) = s.value ∷ values l

-- the least i64
abbrev pub lowest : ℤ
lowest = negsuc 9223372036854775807

-- v is the largest of the list
pub record Highest (l : List ℤ) (v : ℤ) : Type 0 where
  pub among : Memᴰ v l
  pub most : (x : ℤ) → Memᴰ x l → x ≤ℤ v

-- `best` is the largest of what was seen, and was first seen at `at`; `second` is the largest of the others, equal to `best` where there
-- are two of it, and the least i64 where there are no others
pub record Kept (l : List Seen) (t : Keeper) : Type 0 where
  pub later : List Seen
  pub earlier : List Seen
  pub split : l ≡ later ++ (seen t.best t.at ∷ earlier)
  pub most : (x : ℤ) → Memᴰ x (values later) → x ≤ℤ t.best
  pub first : (x : ℤ) → Memᴰ x (values earlier) → x <ℤ t.best
  pub others : Highest (lowest ∷ values (later ++ earlier)) t.second

-- one step, of any keeper
abbrev pub taken : Keeper → ℤ → ℕ → Keeper
taken t v p =
    cond (lt_z t.best v) (record { best = v; second = t.best; at = p })
    (cond (lt_z t.second v) (record { best = t.best; second = v; at = t.at }) t)

-- the values of f from 0 up to n, seen in order, each at its number
abbrev pub run : (ℕ → ℤ) → ℕ → List Seen
run f zero = []
run f (suc n) = seen (f n) n ∷ run f n
