-- A word that is put together from columns is correlated column by column: each column's share is its sum, negated where its top bit is 1.
use mathlib.Core.Path.{◌≡◌, refl, sym, ap, ap₂, ◌∙◌}
use mathlib.Core.Bool.{Bool, true, false, not}
use mathlib.Core.List.{List, [], ◌∷◌, ◌++◌, map}
use Prim.Native.Nat.{ℕ, suc, ◌+◌, ◌*◌, ◌≤◌}
use native.Mathlib.Omega.{arith}
use lib.IntN.{ℤ, neg_ℤ, ◌+ℤ◌, +ℤ_idl, +ℤ_assoc, +ℤ_comm, neg_ℤ-+ℤ, neg_ℤ-neg_ℤ}
use lib.ListN.{length, take, drop, length-append, length-take}
use lib.Seq.{take-add}
use Rattle.signed.specs.Sign.{signed}
use Rattle.contest.specs.Readings.{correlation}
use Rattle.classes.specs.Classes.{top_zero, column_sum, column_sums}

-- ---- any words and readings

correlation-append : (bs cs : List Bool) (xs ys : List ℤ) → length bs ≡ length xs
    → correlation (bs ++ cs) (xs ++ ys) ≡ correlation bs xs +ℤ correlation cs ys
unfolding correlation
correlation-append [] cs [] ys e = sym (+ℤ_idl (correlation cs ys))
correlation-append [] cs (x ∷ xs) ys e = absurd (omega arith)
correlation-append (b ∷ bs) cs [] ys e = absurd (omega arith)
correlation-append (b ∷ bs) cs (x ∷ xs) ys e =
    ap (λ (z : ℤ). signed b x +ℤ z) (correlation-append bs cs xs ys (omega arith)) ∙ sym (+ℤ_assoc (signed b x) _ _)

signed-not : (b : Bool) (x : ℤ) → signed (not b) x ≡ neg_ℤ (signed b x)
signed-not false x = refl
signed-not true x = sym (neg_ℤ-neg_ℤ x)

pub correlation-not : (bs : List Bool) (xs : List ℤ) → correlation (map not bs) xs ≡ neg_ℤ (correlation bs xs)
unfolding correlation
correlation-not [] xs = refl
correlation-not (b ∷ bs) [] = refl
correlation-not (b ∷ bs) (x ∷ xs) = rw (signed-not, correlation-not bs xs) (sym (neg_ℤ-+ℤ (signed b x) (correlation bs xs)))

-- ---- columns

-- an interpretation, by its top bit
abbrev pub turned : Bool → List Bool → List Bool
turned false bs = bs
turned true bs = map not bs

correlation_turned : (t : Bool) (bs : List Bool) (xs : List ℤ) → correlation (turned t bs) xs ≡ signed t (correlation bs xs)
correlation_turned false bs xs = refl
correlation_turned true bs xs = correlation-not bs xs

-- the word with these characters and top bits, the last column's first
abbrev pub from_columns : ℕ → List Bool → List ℕ → List Bool
from_columns p [] cs = []
from_columns p (t ∷ ts) [] = []
from_columns p (t ∷ ts) (x ∷ cs) = from_columns p ts cs ++ turned t (top_zero p x)

turned_long : (t : Bool) (p x : ℕ) → length (turned t (top_zero p x)) ≡ 4
turned_long false p x = refl
turned_long true p x = refl

columns-long : (p : ℕ) (ts : List Bool) (cs : List ℕ) → length ts ≡ length cs → length (from_columns p ts cs) ≡ 4 * length cs
columns-long p [] [] e = refl
columns-long p [] (x ∷ cs) e = absurd (omega arith)
columns-long p (t ∷ ts) [] e = absurd (omega arith)
columns-long p (t ∷ ts) (x ∷ cs) e =
    omega (arith, length-append (from_columns p ts cs) (turned t (top_zero p x)), turned_long t p x, columns-long p ts cs (omega arith))

pub correlation-columns : (p : ℕ) (xs : List ℤ) (ts : List Bool) (cs : List ℕ) → length ts ≡ length cs → 4 * length cs ≤ length xs
    → correlation (from_columns p ts cs) (take (4 * length cs) xs) ≡ correlation ts (column_sums xs p cs)
unfolding column_sum correlation
correlation-columns p xs [] [] e h = refl
correlation-columns p xs [] (x ∷ cs) e h = absurd (omega arith)
correlation-columns p xs (t ∷ ts) [] e h = absurd (omega arith)
correlation-columns p xs (t ∷ ts) (x ∷ cs) e h =
    let n : ℕ = 4 * length cs in
    let g : 4 * suc (length cs) ≡ n + 4 = omega arith in
    let l : length (from_columns p ts cs) ≡ length (take n xs) = omega (arith, columns-long p ts cs (omega arith), length-take n xs) in
    rw (g, take-add n 4 xs)
    (correlation-append (from_columns p ts cs) (turned t (top_zero p x)) (take n xs) (take 4 (drop n xs)) l
    ∙ ap₂ ◌+ℤ◌ (correlation-columns p xs ts cs (omega arith) (omega arith)) (correlation_turned t (top_zero p x) (take 4 (drop n xs)))
    ∙ +ℤ_comm (correlation ts (column_sums xs p cs)) _)
