-- A list as a tree. Reading a list passes all entries before the one that is read; a computed test that reads a table thousands of times
-- reads this in its place.
-- Assumes nothing.
use mathlib.Core.Path.{◌≡◌, ap, ◌∙◌}
use mathlib.Core.Bool.{Bool, true, false, not}
use mathlib.Core.List.{List}
use Prim.Native.Nat.{ℕ, zero, suc, ◌-◌, ◌^◌, ◌≤◌, ◌<◌}
use native.Mathlib.Nat.{pow-suc}
use native.Mathlib.Omega.{arith}
use lib.Dec.{T, ltb, ltb→lt, nltb→le}
use lib.ListN.{get_or, drop}
use lib.Seq.{get_or-drop}

-- a node holds how many entries stand in its first branch
pub data Tree : Type 0 where
  leaf : ℕ → Tree
  node : ℕ → Tree → Tree → Tree

-- the first 2 ^ n entries
abbrev pub build : ℕ → List ℕ → Tree
build zero xs = leaf (get_or xs 0 0)
build (suc n) xs = node (2 ^ n) (build n xs) (build n (drop (2 ^ n) xs))

abbrev pub find : Tree → ℕ → ℕ
find (leaf x) k = x
find (node m first second) k = elim (ltb k m) [ true ↦ find first k | false ↦ find second (k - m) ]

branch : (b : Bool) (x y z : ℕ) → (T b → x ≡ z) → (T (not b) → y ≡ z) → elim b [ true ↦ x | false ↦ y ] ≡ z
branch true x y z p q = p tt
branch false x y z p q = q tt

pub find_build : (n : ℕ) (xs : List ℕ) (k : ℕ) → k < 2 ^ n → find (build n xs) k ≡ get_or xs k 0
find_build zero xs k h = ap (λ (j : ℕ). get_or xs j 0) (omega arith)
find_build (suc n) xs k h =
    branch (ltb k (2 ^ n)) (find (build n xs) k) (find (build n (drop (2 ^ n) xs)) (k - 2 ^ n)) (get_or xs k 0)
    (λ t. find_build n xs k (ltb→lt k (2 ^ n) t))
    (λ t.
    let l : 2 ^ n ≤ k = nltb→le k (2 ^ n) t in
    let g : k - 2 ^ n < 2 ^ n = omega (arith, rw pow-suc at h) in
    find_build n (drop (2 ^ n) xs) (k - 2 ^ n) g ∙ get_or-drop (2 ^ n) xs (k - 2 ^ n) 0 ∙ ap (λ (j : ℕ). get_or xs j 0) (omega arith))
