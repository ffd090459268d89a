-- Rules 17.6 and 17.7, of every part that the promise of `better` allows and every answer that the soft decoder's promise allows to a reading.
use mathlib.Core.Path.{◌≡◌, refl, sym, ap, ◌∙◌}
use mathlib.Core.Logic.{◌≢◌, ◌⊎◌, inl, inr}
use mathlib.Core.Bool.{Bool, true, false, cond, ◌&&◌}
use mathlib.Core.List.{List, []}
use Prim.Native.Nat.{ℕ, ◌/◌, ◌%◌, ◌≤◌, min}
use native.Mathlib.Omega.{arith}
use native.Mathlib.Decide.{ℕ_discrete}
use lib.Dec.{ltb}
use lib.IntN.{ℤ}
use lib.ListN.{length}
use lib.Signed.{le_z, ◌≤ℤ◌}
use borrow.Author.Tests.{ltb-false}
use Rattle.signed.proofs.Parts.{ints, le_true, le_false}
use Rattle.code.specs.Code.{positions}
use Rattle.golay.specs.Answers.{Answer, accepted, refused}
use Rattle.buffers.specs.Buffers.{has_reading, reading_at}
use Rattle.buffers.proofs.Holding.{not-whole, whole_has, held_below}
use Rattle.soft.specs.declared.kinds.Soft.{Soft}
use Rattle.soft.specs.Calls.{SoftRule}
use Rattle.soft.proofs.Decided.{soft-once}
use Rattle.choices.specs.Choices.{reserve_of, preferred}
use Rattle.receivers.specs.Calls.{both_have, part_of, Better}
use Rattle.receivers.proofs.Decided.{choice_by}

-- ---- of one reading

not-accepted : {A : Type 0} {x : Soft} {n : ℕ} → refused n ≡ accepted x → A
not-accepted e = cc

module _ (xs : List ℤ) (x : Soft) (r : SoftRule xs (accepted x)) where
  not-refused : {A : Type 0} (n : ℕ) → SoftRule xs (refused n) → A
  not-refused n s = not-accepted (soft-once xs (refused n) (accepted x) s r)

  same_reserve : (y : Soft) → SoftRule xs (accepted y) → y.reserve ≡ x.reserve
  same_reserve y s = let e = soft-once xs (accepted x) (accepted y) r s in cc

-- nothing is no reading
never_empty : {A : Type 0} (x : Soft) → SoftRule [] (accepted x) → A
unfolding SoftRule
never_empty x r = not-accepted (sym r)

-- ---- what a part is

-- where it is accepted, its reserve is no larger than this one's
abbrev pub NoLarger : List ℤ → Soft → Type 0
NoLarger xs x = (y : Soft) → SoftRule xs (accepted y) → y.reserve ≤ℤ x.reserve

-- a part, by what it comes from
data Comes (first second : List ℤ) (number : ℕ) (part : List ℤ) : Type 0 where
  apart : both_have first second number ≡ false → part ≡ [] → Comes first second number part
  neither :
      (m n : ℕ)
      → SoftRule (reading_at first number) (refused m)
      → SoftRule (reading_at second number) (refused n)
      → part ≡ []
      → Comes first second number part
  of_first :
      (x : Soft)
      → SoftRule (reading_at first number) (accepted x)
      → NoLarger (reading_at second number) x
      → part ≡ reading_at first number
      → Comes first second number part
  of_second :
      (x : Soft)
      → SoftRule (reading_at second number) (accepted x)
      → NoLarger (reading_at first number) x
      → part ≡ reading_at second number
      → Comes first second number part

module _ {first second : List ℤ} {number : ℕ} {part : List ℤ} (p : Better first second number part) where
  comes : Comes first second number part
  comes = go (both_have first second number) refl p.chooses.one p.chooses.other p.chooses.one-allowed p.chooses.other-allowed (p.is ∙ ap (part_of first second number) p.chooses.is)
    where
      compared :
          (x y : Soft) (l : Bool)
          → le_z y.reserve x.reserve ≡ l
          → SoftRule (reading_at first number) (accepted x)
          → SoftRule (reading_at second number) (accepted y)
          → part ≡ part_of first second number (cond l 1 2)
          → Comes first second number part
      compared x y true l r s is = of_first x r (λ z t. let h = le_true y.reserve x.reserve l in let e = same_reserve (reading_at second number) y s z t in omega ints) is
      compared x y false l r s is = of_second y s (λ z t. let h = le_false y.reserve x.reserve l in let e = same_reserve (reading_at first number) x r z t in omega ints) is

      go :
          (t : Bool)
          → both_have first second number ≡ t
          → (a b : Answer Soft)
          → SoftRule (reading_at first number) a
          → SoftRule (reading_at second number) b
          → part ≡ part_of first second number (cond t (preferred (reserve_of a) (reserve_of b)) 0)
          → Comes first second number part
      go false e a b r s is = apart e is
      go true e (accepted x) (accepted y) r s is = compared x y (le_z y.reserve x.reserve) refl r s is
      go true e (accepted x) (refused n) r s is = of_first x r (λ z t. not-refused (reading_at second number) z t n s) is
      go true e (refused m) (accepted y) r s is = of_second y s (λ z t. not-refused (reading_at first number) z t m r) is
      go true e (refused m) (refused n) r s is = neither m n r s is

  -- Rule 17.6: it is empty, or the soft decoder accepts it
  pub empty-or-accepted : (part ≡ []) ⊎ ((x : Soft) × SoftRule part (accepted x))
  empty-or-accepted = go comes
    where
      go : Comes first second number part → (part ≡ []) ⊎ ((x : Soft) × SoftRule part (accepted x))
      go (apart e is) = inl is
      go (neither m n r s is) = inl is
      go (of_first x r h is) = inr (x, rw is r)
      go (of_second x r h is) = inr (x, rw is r)

  -- Rule 17.6: and no reading of the pair is accepted with a larger reserve
  pub none-preferred : (x : Soft) → SoftRule part (accepted x) → NoLarger (reading_at first number) x × NoLarger (reading_at second number) x
  none-preferred x a = go comes
    where
      go : Comes first second number part → NoLarger (reading_at first number) x × NoLarger (reading_at second number) x
      go (apart e is) = never_empty x (rw is at a)
      go (neither m n r s is) = never_empty x (rw is at a)
      go (of_first z r h is) =
          let e = same_reserve (reading_at first number) z r x (rw is at a) in
          (λ y s. let f = same_reserve (reading_at first number) z r y s in omega ints, λ y s. let f = h y s in omega ints)
      go (of_second z r h is) =
          let e = same_reserve (reading_at second number) z r x (rw is at a) in
          (λ y s. let f = h y s in omega ints, λ y s. let f = same_reserve (reading_at second number) z r y s in omega ints)

  apart-empty : both_have first second number ≡ false → part ≡ []
  apart-empty e = let c : p.choice ≡ 0 = p.chooses.is ∙ simp e in p.is ∙ ap (part_of first second number) c

-- ---- when it is empty

-- Rule 17.2: how many readings the shorter buffer has
abbrev pub shorter : List ℤ → List ℤ → ℕ
shorter first second = min (length first) (length second) / positions

-- Rule 17.6: why a part is empty
pub data NoBetter (first second : List ℤ) (number : ℕ) : Type 0 where
  first-not-whole : length first % positions ≢ 0 → NoBetter first second number
  second-not-whole : length second % positions ≢ 0 → NoBetter first second number
  beyond : shorter first second ≤ number → NoBetter first second number
  both-refused :
      (m n : ℕ)
      → SoftRule (reading_at first number) (refused m)
      → SoftRule (reading_at second number) (refused n)
      → NoBetter first second number

module _ (first second : List ℤ) (number : ℕ) where
  below_both : (t u : Bool) → ltb number (length first / positions) ≡ t → ltb number (length second / positions) ≡ u → (t && u) ≡ false → shorter first second ≤ number
  below_both true true a b e = cc
  below_both true false a b e = let h = ltb-false number (length second / 24) b in omega arith
  below_both false u a b e = let h = ltb-false number (length first / 24) a in omega arith

  apart_reason : both_have first second number ≡ false → NoBetter first second number
  apart_reason e = go (ℕ_discrete (length first % positions) 0) (ℕ_discrete (length second % positions) 0)
    where
      go : Dec (length first % positions ≡ 0) → Dec (length second % positions ≡ 0) → NoBetter first second number
      go (no d) s = first-not-whole d
      go (yes f) (no d) = second-not-whole d
      go (yes f) (yes s) = beyond (below_both _ _ refl refl (rw (whole_has first number f, whole_has second number s) at e))

  beyond_apart : shorter first second ≤ number → both_have first second number ≡ false
  beyond_apart h = go (has_reading first number) (has_reading second number) refl refl
    where
      go : (t u : Bool) → has_reading first number ≡ t → has_reading second number ≡ u → (t && u) ≡ false
      go false u e f = refl
      go true false e f = refl
      go true true e f =
          let a = held_below first number e in
          let b = held_below second number f in
          absurd (omega arith)

and_false : (t : Bool) → (t && false) ≡ false
and_false true = refl
and_false false = refl

module _ {first second : List ℤ} {number : ℕ} where
  pub empty_reason : Better first second number [] → NoBetter first second number
  empty_reason p = go (comes p)
    where
      go : Comes first second number [] → NoBetter first second number
      go (apart e is) = apart_reason first second number e
      go (neither m n r s is) = both-refused m n r s
      go (of_first x r h is) = never_empty x (rw (sym is) at r)
      go (of_second x r h is) = never_empty x (rw (sym is) at r)

  pub reason_empty : {part : List ℤ} → NoBetter first second number → Better first second number part → part ≡ []
  reason_empty (first-not-whole d) p = apart-empty p (rw (not-whole first number d) refl)
  reason_empty (second-not-whole d) p = apart-empty p (rw (not-whole second number d) (and_false (has_reading first number)))
  reason_empty (beyond h) p = apart-empty p (beyond_apart first second number h)
  reason_empty {part} (both-refused m n r s) p = go (comes p)
    where
      go : Comes first second number part → part ≡ []
      go (apart e is) = is
      go (neither k l a b is) = is
      go (of_first x a h is) = not-refused (reading_at first number) x a m r
      go (of_second x a h is) = not-refused (reading_at second number) x a n s

-- ---- the receivers exchanged

-- Rule 17.7: the same part; or both readings are accepted with equal reserves, and each part is that of the receiver named first
pub data Exchanged (first second : List ℤ) (number : ℕ) (part other : List ℤ) : Type 0 where
  same_part : part ≡ other → Exchanged first second number part other
  equal-reserves :
      (x y : Soft)
      → part ≡ reading_at first number
      → other ≡ reading_at second number
      → SoftRule part (accepted x)
      → SoftRule other (accepted y)
      → x.reserve ≡ y.reserve
      → Exchanged first second number part other

module _ {first second : List ℤ} {number : ℕ} {part other : List ℤ} (p : Better first second number part) (q : Better second first number other) where
  pub exchanged : Exchanged first second number part other
  exchanged =
      let c = p.chooses in
      go (has_reading first number) (has_reading second number) c.one c.other c.one-allowed c.other-allowed
      (p.is ∙ ap (part_of first second number) c.is)
      (q.is ∙ ap (part_of second first number) (choice_by c.other c.one q.chooses c.other-allowed c.one-allowed))
    where
      compared :
          (x y : Soft) (l m : Bool)
          → le_z y.reserve x.reserve ≡ l
          → le_z x.reserve y.reserve ≡ m
          → SoftRule (reading_at first number) (accepted x)
          → SoftRule (reading_at second number) (accepted y)
          → part ≡ part_of first second number (cond l 1 2)
          → other ≡ part_of second first number (cond m 1 2)
          → Exchanged first second number part other
      compared x y true true l m r s e f =
          let h = le_true y.reserve x.reserve l in
          let g = le_true x.reserve y.reserve m in
          equal-reserves x y e f (rw e r) (rw f s) (omega ints)
      compared x y true false l m r s e f = same_part (e ∙ sym f)
      compared x y false true l m r s e f = same_part (e ∙ sym f)
      compared x y false false l m r s e f =
          let h = le_false y.reserve x.reserve l in
          let g = le_false x.reserve y.reserve m in
          absurd (omega ints)

      go :
          (t u : Bool) (a b : Answer Soft)
          → SoftRule (reading_at first number) a
          → SoftRule (reading_at second number) b
          → part ≡ part_of first second number (cond (t && u) (preferred (reserve_of a) (reserve_of b)) 0)
          → other ≡ part_of second first number (cond (u && t) (preferred (reserve_of b) (reserve_of a)) 0)
          → Exchanged first second number part other
      go true true (accepted x) (accepted y) r s e f = compared x y (le_z y.reserve x.reserve) (le_z x.reserve y.reserve) refl refl r s e f
      go true true (accepted x) (refused n) r s e f = same_part (e ∙ sym f)
      go true true (refused m) (accepted y) r s e f = same_part (e ∙ sym f)
      go true true (refused m) (refused n) r s e f = same_part (e ∙ sym f)
      go true false a b r s e f = same_part (e ∙ sym f)
      go false true a b r s e f = same_part (e ∙ sym f)
      go false false a b r s e f = same_part (e ∙ sym f)

  -- Rule 17.7: the reserve is the same in every case; what is empty is refused alike
  pub exchanged_reserve : (a b : Answer Soft) → SoftRule part a → SoftRule other b → reserve_of a ≡ reserve_of b
  exchanged_reserve a b r s = go exchanged
    where
      go : Exchanged first second number part other → reserve_of a ≡ reserve_of b
      go (same_part e) = ap reserve_of (soft-once part a b r (rw (sym e) at s))
      go (equal-reserves x y d e u v f) =
          ap reserve_of (soft-once part a (accepted x) r u) ∙ ap accepted f ∙ ap reserve_of (soft-once other (accepted y) b v s)
