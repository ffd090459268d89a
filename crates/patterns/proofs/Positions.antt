-- Rule 5.9: positions in ascending order, and none after them, are as many as the ones of the word that they make; and no other such list, as
-- long, makes that word. So a syndrome's pattern is stored as one number.
-- Assumes nothing.
use mathlib.Core.Path.{◌≡◌, refl, sym, ap, ap₂, ◌∙◌, subst}
use mathlib.Core.Logic.{inl, inr, ⊎_elim}
use mathlib.Core.Bool.{cond}
use mathlib.Core.List.{List, [], ◌∷◌, ◌++◌}
use Prim.Native.Nat.{ℕ, zero, suc, ◌+◌, ◌-◌, ◌*◌, ◌/◌, ◌%◌, ◌^◌, ◌≤◌, ◌<◌}
use native.Mathlib.Nat.{mul-div_cancel, mul_comm, div-one, div-div-eq-div-mul, mod-one, mod-eq_of_lt, one-le-pow, pow-suc, eq-or-lt_of_le}
use native.Mathlib.Omega.{arith}
use native.Mathlib.Decide.{ℕ_discrete}
use lib.Dec.{lit<, eqb}
use lib.Arith.{mod-mul}
use lib.Pow.{pow_pos, pow_mono, pow-add}
use lib.ListN.{length, replicate, take, drop}
use lib.Seq.{get_or-take, get_or-drop}
use borrow.Author.Tests.{eq-eqb, ne_eqb}
use Rattle.binary.specs.Words.{ones}
use Rattle.binary.proofs.Ones.{ones_zero}
use Rattle.binary.proofs.Places.{Top, ones-top, le_or_lt}
use Rattle.patterns.specs.Positions.{none, worth, spread, count, InOrder, fields, held, Stored, AreStored}
use Rattle.patterns.proofs.Patterns.{pattern_unique}

worth-at : (p : ℕ) → p ≤ 24 → worth p ≡ 2 ^ (24 - p)
worth-at p h =
    let e : 24 ≡ 24 - p + p = omega arith in
    ap (λ (k : ℕ). 2 ^ k / 2 ^ p) e ∙ ap (λ (x : ℕ). x / 2 ^ p) (pow-add 2 (24 - p) p) ∙ mul-div_cancel (2 ^ (24 - p)) (pow_pos p)

-- ---- after none

none_left : (ps : List ℕ) → InOrder none ps → ps ≡ replicate (length ps) none
none_left [] o = refl
none_left (p ∷ ps) o =
    ⊎_elim
    (λ n. let f : ⊥ = omega (arith, n.0, n.1) in absurd f)
    (λ e. ap₂ (λ (x : ℕ) (xs : List ℕ). x ∷ xs) e (none_left ps (subst (λ (q : ℕ). InOrder q ps) e o.1)))
    o.0

spread_none : (n : ℕ) → spread (replicate n none) ≡ 0
spread_none zero = refl
spread_none (suc n) = ap (λ (x : ℕ). 0 + x) (spread_none n)

count_none : (n : ℕ) → count (replicate n none) ≡ 0
count_none zero = refl
count_none (suc n) = ap (λ (x : ℕ). 0 + x) (count_none n)

-- a list that begins with none
module _ (p : ℕ) (ps : List ℕ) (e : p ≡ none) (o : InOrder p ps) where
  all_none : p ∷ ps ≡ replicate (suc (length ps)) none
  all_none = ap₂ (λ (x : ℕ) (xs : List ℕ). x ∷ xs) e (none_left ps (subst (λ (q : ℕ). InOrder q ps) e o))

  nothing_spread : spread (p ∷ ps) ≡ 0
  nothing_spread = ap spread all_none ∙ spread_none (suc (length ps))

  nothing_counted : count (p ∷ ps) ≡ 0
  nothing_counted = ap count all_none ∙ count_none (suc (length ps))

-- ---- the word of a list, by its first position

below_next : (a b c d : ℕ) → c ≡ a * 2 → c ≤ d → b < a → a + b < d
below_next a b c d e l g = omega arith

spread-below : (before : ℕ) (ps : List ℕ) → before ≤ 24 → InOrder before ps → spread ps < 2 ^ (24 - before)
spread-below before [] h o = pow_pos (24 - before)
spread-below before (p ∷ ps) h o =
    ⊎_elim
    (λ n.
    rw (worth-at p n.1)
    (below_next (2 ^ (24 - p)) (spread ps) (2 ^ suc (24 - p)) (2 ^ (24 - before)) (pow-suc 2 (24 - p)) (pow_mono (omega (arith, n.0, n.1)))
    (spread-below p ps n.1 o.1)))
    (λ e. subst (λ (x : ℕ). x < 2 ^ (24 - before)) (sym (nothing_spread p ps e o.1)) (pow_pos (24 - before)))
    o.0

-- position p has the highest place, and the others stand below it
highest : (before p : ℕ) (ps : List ℕ) → before < p → p ≤ 24 → InOrder p ps → Top 24 (spread (p ∷ ps)) (24 - p) (spread ps)
highest before p ps l h o = record {
  place = omega arith;
  below = spread-below p ps h o;
  whole = ap (λ (x : ℕ). x + spread ps) (worth-at p h);
}

count_position : (p : ℕ) (ps : List ℕ) → (p ≡ none → ⊥) → count (p ∷ ps) ≡ suc (count ps)
count_position p ps d = ap (λ b. cond b 0 1 + count ps) (ne_eqb p none d) ∙ omega arith

-- Rule 5.9: as many positions as ones
pub positions-ones : (before : ℕ) (ps : List ℕ) → InOrder before ps → ones 24 (spread ps) ≡ count ps
positions-ones before [] o = ones_zero 24
positions-ones before (p ∷ ps) o =
    ⊎_elim
    (λ n.
    ones-top (highest before p ps n.0 n.1 o.1)
    ∙ ap suc (positions-ones p ps o.1)
    ∙ sym (count_position p ps (λ e. omega (arith, n.1))))
    (λ e. ap (ones 24) (nothing_spread p ps e o.1) ∙ ones_zero 24 ∙ sym (nothing_counted p ps e o.1))
    o.0

-- ---- one list for a word

-- a list whose first position comes later, or is none, makes a smaller word
later-smaller : (before p : ℕ) (ps qs : List ℕ) → before < p → p ≤ 24 → InOrder p ps → InOrder p qs → spread qs < spread (p ∷ ps)
later-smaller before p ps qs l h o q = omega (arith, (highest before p ps l h o).whole, spread-below p qs h q)

not_equal : {A : Type 0} {a b : ℕ} → a < b → a ≡ b → A
not_equal h e = let f : ⊥ = omega arith in absurd f

-- two lists that begin with a position make the same word: they begin with the same
same_first :
    (before x y : ℕ) (xs ys : List ℕ)
    → before < x → x ≤ 24 → InOrder x xs
    → before < y → y ≤ 24 → InOrder y ys
    → spread (x ∷ xs) ≡ spread (y ∷ ys)
    → x ≡ y
same_first before x y xs ys lx hx ox ly hy oy e =
    ⊎_elim
    (λ h.
    ⊎_elim
    (λ s. s)
    (λ s. not_equal (later-smaller before x xs (y ∷ ys) lx hx ox (inl (s, hy), oy)) (sym e))
    (eq-or-lt_of_le h))
    (λ h. not_equal (later-smaller before y ys (x ∷ xs) ly hy oy (inl (h, hx), ox)) e)
    (le_or_lt x y)

pub spread-once :
    (before : ℕ) (xs ys : List ℕ) → InOrder before xs → InOrder before ys → length xs ≡ length ys → spread xs ≡ spread ys → xs ≡ ys
spread-once before [] [] o q l e = refl
spread-once before [] (y ∷ ys) o q l e = let f : ⊥ = omega arith in absurd f
spread-once before (x ∷ xs) [] o q l e = let f : ⊥ = omega arith in absurd f
spread-once before (x ∷ xs) (y ∷ ys) o q l e =
    ⊎_elim
    (λ m.
    ⊎_elim
    (λ n.
    let s = same_first before x y xs ys m.0 m.1 o.1 n.0 n.1 q.1 e in
    let t : spread xs ≡ spread ys = omega (arith, ap worth s) in
    ap₂ (λ (z : ℕ) (zs : List ℕ). z ∷ zs) s
    (spread-once y xs ys (subst (λ (z : ℕ). InOrder z xs) s o.1) q.1 (omega arith) t))
    (λ n. not_equal (later-smaller before x xs (y ∷ ys) m.0 m.1 o.1 (inr n, q.1)) (sym e))
    q.0)
    (λ m.
    ⊎_elim
    (λ n. not_equal (later-smaller before y ys (x ∷ xs) n.0 n.1 q.1 (inr m, o.1)) e)
    (λ n. all_none x xs m o.1 ∙ ap (λ (k : ℕ). replicate k none) l ∙ sym (all_none y ys n q.1))
    q.0)
    o.0

-- ---- fields

-- the number that fields make
together : List ℕ → ℕ
together [] = 0
together (f ∷ fs) = f * 32 ^ length fs + together fs

fields-length : (n e : ℕ) → length (fields n e) ≡ n
fields-length zero e = refl
fields-length (suc n) e = ap suc (fields-length n e)

fields_together : (n e : ℕ) → together (fields n e) ≡ e % 32 ^ n
unfolding together
fields_together zero e = sym (mod-one e)
fields_together (suc n) e =
    ap₂ (λ (k x : ℕ). e / 32 ^ n % 32 * 32 ^ k + x) (fields-length n e) (fields_together n e)
    ∙ sym (mod-mul e (lit< tt) (one-le-pow n 32 (lit< tt)))
    ∙ ap (λ (x : ℕ). e % x) (mul_comm 32 (32 ^ n) ∙ sym (pow-suc 32 n))

fields-once : (n x y : ℕ) → x < 32 ^ n → y < 32 ^ n → fields n x ≡ fields n y → x ≡ y
fields-once n x y h g e =
    sym (mod-eq_of_lt h) ∙ sym (fields_together n x) ∙ ap together e ∙ fields_together n y ∙ mod-eq_of_lt g

-- what is added up field by field, as `spread` does
pub four-fields :
    (f : ℕ → ℕ) (e : ℕ) {a b c d : ℕ}
    → a ≡ f (e / 32768 % 32)
    → b ≡ f (e / 1024 % 32)
    → c ≡ f (e / 32 % 32)
    → d ≡ f (e % 32)
    → a + b + c + d ≡ f (e / 32 ^ 3 % 32) + (f (e / 32 ^ 2 % 32) + (f (e / 32 ^ 1 % 32) + (f (e / 32 ^ 0 % 32) + 0)))
four-fields f e {a} {b} {c} {d} p q r s =
    added a b c d p q r (s ∙ ap (λ (x : ℕ). f (x % 32)) (sym (div-one e)))
  where
    added : (a b c d : ℕ) {x y z w : ℕ} → a ≡ x → b ≡ y → c ≡ z → d ≡ w → a + b + c + d ≡ x + (y + (z + (w + 0)))
    added a b c d p q r s = omega arith

-- ---- counted from the end

fields_end : (n e : ℕ) → fields (suc n) e ≡ fields n (e / 32) ++ (e % 32 ∷ [])
fields_end zero e = ap (λ (x : ℕ). x % 32 ∷ []) (div-one e)
fields_end (suc n) e =
    ap₂ (λ (x : ℕ) (xs : List ℕ). x % 32 ∷ xs)
    (ap (λ (x : ℕ). e / x) (pow-suc 32 n ∙ mul_comm (32 ^ n) 32) ∙ sym (div-div-eq-div-mul e 32 (32 ^ n)))
    (fields_end n e)

order-front : (before : ℕ) (ps qs : List ℕ) → InOrder before (ps ++ qs) → InOrder before ps
order-front before [] qs o = tt
order-front before (p ∷ ps) qs o = (o.0, order-front p ps qs o.1)

none_end : (ps : List ℕ) (q : ℕ) → InOrder none (ps ++ (q ∷ [])) → q ≡ none
none_end [] q o = ⊎_elim (λ n. let f : ⊥ = omega (arith, n.0, n.1) in absurd f) (λ e. e) o.0
none_end (p ∷ ps) q o =
    ⊎_elim
    (λ n. let f : ⊥ = omega (arith, n.0, n.1) in absurd f)
    (λ e. none_end ps q (subst (λ (x : ℕ). InOrder x (ps ++ (q ∷ []))) e o.1))
    o.0

-- where the last is a position, all are
count-all : (before : ℕ) (ps : List ℕ) (q : ℕ) → InOrder before (ps ++ (q ∷ [])) → (q ≡ none → ⊥) → count (ps ++ (q ∷ [])) ≡ suc (length ps)
count-all before [] q o d = count_position q [] d
count-all before (p ∷ ps) q o d =
    count_position p (ps ++ (q ∷ [])) (λ e. d (none_end ps q (subst (λ (x : ℕ). InOrder x (ps ++ (q ∷ []))) e o.1)))
    ∙ ap suc (count-all p ps q o.1 d)

count-front : (ps : List ℕ) → count (ps ++ (none ∷ [])) ≡ count ps
count-front [] = refl
count-front (p ∷ ps) = ap (λ (x : ℕ). cond (eqb p none) 0 1 + x) (count-front ps)

-- one field more: a position, or none
pub held_here : (n e : ℕ) → (e % 32 ≡ none → ⊥) → held (suc n) e ≡ suc n
held_here n e d = ap (λ b. cond b (held n (e / 32)) (suc n)) (ne_eqb (e % 32) none d)

pub held_past : (n e : ℕ) → e % 32 ≡ none → held (suc n) e ≡ held n (e / 32)
held_past n e z = ap (λ b. cond b (held n (e / 32)) (suc n)) (eq-eqb (e % 32) none z)

pub held-count : (before n e : ℕ) → InOrder before (fields n e) → held n e ≡ count (fields n e)
held-count before zero e o = refl
held-count before (suc n) e o = by (ℕ_discrete (e % 32) none) (held-count before n (e / 32))
  where
    split : InOrder before (fields n (e / 32) ++ (e % 32 ∷ []))
    split = subst (InOrder before) (fields_end n e) o

    by : Dec (e % 32 ≡ none) → (InOrder before (fields n (e / 32)) → held n (e / 32) ≡ count (fields n (e / 32))) → held (suc n) e ≡ count (fields (suc n) e)
    by (yes z) deeper =
        held_past n e z
        ∙ deeper (order-front before (fields n (e / 32)) (e % 32 ∷ []) split)
        ∙ sym (ap count (fields_end n e ∙ ap (λ (x : ℕ). fields n (e / 32) ++ (x ∷ [])) z) ∙ count-front (fields n (e / 32)))
    by (no d) deeper =
        held_here n e d
        ∙ ap suc (sym (fields-length n (e / 32)))
        ∙ sym (ap count (fields_end n e) ∙ count-all before (fields n (e / 32)) (e % 32) split d)

-- ---- stored

pub stored_once : {s x y : ℕ} → Stored s x → Stored s y → x ≡ y
stored_once {s} {x} {y} p q =
    fields-once 4 x y p.short q.short (spread-once 0 (fields 4 x) (fields 4 y) p.order q.order refl (pattern_unique p.rule q.rule))

-- the distance: as many are held as the pattern has ones
pub stored_ones : {s entry : ℕ} → Stored s entry → ones 24 (spread (fields 4 entry)) ≡ held 4 entry
stored_ones {s} {entry} p = positions-ones 0 (fields 4 entry) p.order ∙ sym (held-count 0 4 entry p.order)

-- Rule 15.8: each part of a table of stored patterns is such a table
pub part_stored :
    {count : ℕ} {lows highs : List ℕ}
    → AreStored 0 count lows highs
    → (skip n : ℕ)
    → (skip + n) * 4 ≤ count
    → AreStored (skip * 4) (n * 4) (take n (drop skip lows)) (take n (drop skip highs))
part_stored {count} {lows} {highs} t skip n h = record {
  each = λ k g.
      let place : k / 4 < n = omega arith in
      let syndrome : 0 + (skip * 4 + k) ≡ skip * 4 + k = omega arith in
      let number : (skip * 4 + k) / 4 ≡ skip + k / 4 = omega arith in
      let entry : (skip * 4 + k) % 4 ≡ k % 4 = omega arith in
      rw (get_or-take n (drop skip lows) (k / 4) 0 place, get_or-drop skip lows (k / 4) 0)
      (rw (get_or-take n (drop skip highs) (k / 4) 0 place, get_or-drop skip highs (k / 4) 0)
      (rw (syndrome, number, entry) at (t.each (skip * 4 + k) (omega arith))));
}
