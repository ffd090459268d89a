-- Rule 18.4: readings counted one after the other, and what those that were counted say of the totals.
use Rattle.std.specs.Prelude.{◌≡◌, ◌⊎◌, Bool, true, false, cond, List, [], ◌∷◌, ◌++◌, ℕ, ◌+◌, ◌≤◌, ◌<◌, eqb, ℤ, length, get_or}
use Rattle.code.specs.Array.{total}
use Rattle.code.specs.Code.{messages}
use Rattle.golay.specs.Answers.{Answer, accepted, refused}
use Rattle.hands.specs.Hands.{output, itself}
use Rattle.totals.specs.Totals.{Totals}
use Rattle.tally.specs.Counts.{count_rule}

-- an answer, where its reading was counted: one that the count refuses, with 1 or 12, is left out
abbrev pub where_counted : Answer Totals → Answer (ℕ × ℕ) → List (Answer (ℕ × ℕ))
where_counted (accepted T) answer = answer ∷ []
where_counted (refused n) answer = []

module _ (decode : List ℤ → Answer (ℕ × ℕ)) where
  -- the totals after one reading, and after some
  abbrev pub with_reading : Totals → List ℤ → Totals
  with_reading T xs = output itself (count_rule T (decode xs)) T

  unfoldable pub tallied : Totals → List (List ℤ) → Totals
  tallied T [] = T
  tallied T (xs ∷ later) = tallied (with_reading T xs) later

  -- the answers to those of the readings that were counted
  unfoldable pub counted_answers : Totals → List (List ℤ) → List (Answer (ℕ × ℕ))
  counted_answers T [] = []
  counted_answers T (xs ∷ later) = where_counted (count_rule T (decode xs)) (decode xs) ++ counted_answers (with_reading T xs) later

-- how many of some answers a test holds for
unfoldable pub how_many : (Answer (ℕ × ℕ) → Bool) → List (Answer (ℕ × ℕ)) → ℕ
how_many test [] = 0
how_many test (a ∷ answers) = cond (test a) 1 0 + how_many test answers

abbrev pub is_accepted : Answer (ℕ × ℕ) → Bool
is_accepted (accepted x) = true
is_accepted (refused n) = false

abbrev pub is_accepted_for : ℕ → Answer (ℕ × ℕ) → Bool
is_accepted_for m (accepted x) = eqb x.0 m
is_accepted_for m (refused n) = false

abbrev pub is_refused_with : ℕ → Answer (ℕ × ℕ) → Bool
is_refused_with n (accepted x) = false
is_refused_with n (refused k) = eqb k n

-- the reserves of those that are accepted
abbrev pub reserve_in : Answer (ℕ × ℕ) → List ℕ
reserve_in (accepted x) = x.1 ∷ []
reserve_in (refused n) = []

unfoldable pub reserves : List (Answer (ℕ × ℕ)) → List ℕ
reserves [] = []
reserves (a ∷ answers) = reserve_in a ++ reserves answers

-- a number is one of some
unfoldable pub Among : ℕ → List ℕ → Type 0
Among n [] = ⊥
Among n (k ∷ ks) = (n ≡ k) ⊎ Among n ks

-- Rule 18.4: the smallest reserve is one of them, and none is less; it is 0, for none, exactly if there are none
pub record Smallest (smallest : ℕ) (ρs : List ℕ) : Type 0 where
  pub none : ρs ≡ [] → smallest ≡ 0
  pub zero_none : smallest ≡ 0 → ρs ≡ []
  pub among : (ρs ≡ [] → ⊥) → Among smallest ρs
  pub least : (ρ : ℕ) → Among ρ ρs → smallest ≤ ρ

-- Rule 18.4: what the answers to the readings that were counted say of the totals
pub record AddsUp (answers : List (Answer (ℕ × ℕ))) (T : Totals) : Type 0 where
  pub read_is : T.tally.read ≡ length answers
  pub parts : T.tally.read ≡ T.tally.accepted + T.tally.refused_2 + T.tally.refused_6
  pub accepted-is : T.tally.accepted ≡ how_many is_accepted answers
  pub refused_2_is : T.tally.refused_2 ≡ how_many (is_refused_with 2) answers
  pub refused_6_is : T.tally.refused_6 ≡ how_many (is_refused_with 6) answers
  pub each : (m : ℕ) → m < messages → get_or T.table m 0 ≡ how_many (is_accepted_for m) answers
  pub all : T.tally.accepted ≡ total T.table
  pub smallest-is : Smallest T.tally.smallest (reserves answers)
  pub total-is : T.tally.total ≡ total (reserves answers)
