-- What the functions over one class promise. Promises speak of every list of sums that explains a value, so no list has to be handed over.
use Rattle.std.specs.Prelude.{◌≡◌, Bool, List, ℕ, ◌+◌, ◌*◌, ◌%◌, ◌≤◌, ◌<◌, eqb, ℤ, length}
use Rattle.contest.specs.Words.{one, odd}
use Rattle.contest.specs.Readings.{correlation}
use Rattle.contest.specs.Largest.{Best}
use Rattle.contest.specs.declared.Keeper.{Keeper}
use Rattle.contest.specs.Losses.{weight}
use Rattle.contest.specs.Numbers.{val, tops}
use Rattle.contest.specs.Signs.{State}
use Rattle.classes.specs.Classes.{parity_of, characters_of}
use Rattle.columns.specs.Columns.{picks, far}
use Rattle.details.specs.declared.Sizes.{Sizes}

-- t is what the columns of sums fs come to, so that rules 8.4 and 7.2 can be told from it
pub record Held (fs : List ℤ) (t : Sizes) : Type 0 where
  pub signs : List Bool
  pub other : List Bool
  pub state : State far fs t.least t.next signs other
  pub other-long : length other ≡ length fs
  pub total-is : t.total ≡ weight fs
  pub bound : weight fs ≤ length fs * 8589934592
  pub odd_is : t.odd ≡ one (odd signs)
  pub signs-is : t.signs ≡ val signs
  pub other-is : t.other ≡ val other

-- how large it gets in n columns, six at most
pub record Few (n : ℕ) (t : Sizes) : Type 0 where
  pub total : t.total ≤ n * 8589934592
  pub least : t.least ≤ far
  pub next : t.next ≤ far
  pub odd : t.odd < 2
  pub signs : t.signs < 64
  pub other : t.other < 64

-- t holds the two largest of f from i up to j
abbrev pub Tops : (ℕ → ℤ) → ℕ → ℕ → Keeper → Type 0
Tops f i j t = Best f i j t.best t.second t.at

-- r holds the two largest of a class: of every f that has, from base on, the correlations of its top bits with its sums
abbrev pub Settled : Sizes → ℕ → ℕ → Keeper → Type 0
Settled t p base r =
    (f : ℕ → ℤ) (fs : List ℤ) → Held fs t → length fs ≡ 6 → ((j : ℕ) → j < 32 → f (base + j) ≡ correlation (tops 5 (eqb p 1) j) fs)
    → Tops f base (base + 32) r

-- Rules 8.1 to 8.3: of the 48 numbers s the correlation of message m, which class k has: that of its top bits with the class's sums
abbrev pub in_class : List ℤ → ℕ → ℕ → ℤ
in_class s k m = correlation (tops 5 (eqb (parity_of k) 1) (m % 32)) (picks s (parity_of k) (characters_of k))
