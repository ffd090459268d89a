-- What the functions over a reading promise: its columns' sums (8.3) in an array of 48, eight a column.
use Rattle.std.specs.Prelude.{◌≡◌, cond, List, [], ◌∷◌, ℕ, zero, suc, ◌+◌, ◌*◌, ◌/◌, ◌%◌, ◌<◌, ltb, ℤ, pos, ◌+ℤ◌, ◌-ℤ◌, length, get_or}
use Rattle.signed.specs.Within.{Within}
use Rattle.classes.specs.Classes.{column_sum, column_figure}
use Rattle.columns.specs.Places.{Filled}
use Rattle.columns.specs.declared.parts.Pair.{Pair}
use Rattle.columns.specs.declared.parts.Column.{Column}

-- the confidences at n and after it, added and subtracted
pub record PairOf (xs : List ℤ) (n : ℕ) (t : Pair) : Type 0 where
  pub sum : t.sum ≡ get_or xs n (pos 0) +ℤ get_or xs (n + 1) (pos 0)
  pub difference : t.difference ≡ get_or xs n (pos 0) -ℤ get_or xs (n + 1) (pos 0)

-- the two pairs of column i, counted from 0
pub record ColumnOf (xs : List ℤ) (i : ℕ) (t : Column) : Type 0 where
  pub upper : PairOf xs (4 * i) t.upper
  pub lower : PairOf xs (4 * i + 2) t.lower

-- Rule 8.3: z is the sum that belongs at place j
pub record SumAt (xs : List ℤ) (j : ℕ) (z : ℤ) : Type 0 where
  pub value : z ≡ column_sum xs (j / 8) (j % 8 / 4) (j % 8 % 4)
  pub bound : Within 8589934592 z

-- the sums of the first i columns stand in their places
abbrev pub SumsUpTo : List ℤ → ℕ → List ℤ → Type 0
SumsUpTo xs i s = Filled (pos 0) (SumAt xs) (8 * i) 48 s

-- no sum has a size above four times 2^31
abbrev pub SumsWithin : List ℤ → Type 0
SumsWithin s = (j : ℕ) → Within 8589934592 (get_or s j (pos 0))

-- where the sum of column i for parity p and character x stands
abbrev pub place : ℕ → ℕ → ℕ → ℕ
place i p x = i * 8 + p * 4 + x

-- Rule 8.3: every sum stands in its place
pub record Sums (xs s : List ℤ) : Type 0 where
  pub sums : (i p x : ℕ) → i < 6 → p < 2 → x < 4 → get_or s (place i p x) (pos 0) ≡ column_sum xs i p x
  pub within : SumsWithin s

-- the sums of a class, of the 48 numbers s
abbrev pub picks : List ℤ → ℕ → List ℕ → List ℤ
picks s p [] = []
picks s p (x ∷ cs) = get_or s (place (length cs) p x) (pos 0) ∷ picks s p cs

-- the first i of a list, the last of them first
abbrev pub front : ℕ → List ℕ → List ℕ
front zero x = []
front (suc i) x = get_or x i 0 ∷ front i x

-- Rule 8.3: the figure of column i, counted from 0, in class k; 0 past the last column
abbrev pub column_at : List ℤ → ℕ → ℕ → ℤ
column_at xs k i = cond (ltb i 6) (column_figure xs k (i + 1)) (pos 0)

-- above all sizes, and above what six of them come to
abbrev pub far : ℕ
far = 1099511627776
