-- A decoder that takes a zero for bit 0 gives a dead input, 24 zeros, speed 0. What this one makes of zeros, for every answer that its promise
-- allows: no answer depends on how zeros are filled, zeros alone are never answered, 6 is given without zeros only and 14 with zeros only; and
-- without zeros the rule is document 01's to the letter.
-- Assumes nothing.
use mathlib.Core.Path.{◌≡◌, refl, sym, ap, subst}
use mathlib.Core.Bool.{Bool, true, false, not}
use mathlib.Core.List.{List}
use Prim.Native.Nat.{ℕ, zero, suc, ◌^◌, ◌≤◌, ◌<◌}
use native.Mathlib.Omega.{arith}
use lib.Dec.{eqb}
use lib.IntN.{ℤ}
use lib.ListN.{length}
use borrow.Author.Tests.{eqb-true}
use Rattle.binary.specs.Words.{distance}
use Rattle.code.specs.Code.{positions}
use Rattle.golay.specs.declared.kinds.Refusal.TheVariants.{WrongLength, MostNegative}
use Rattle.golay.specs.Answers.{Answer, accepted, refused, Refuse}
use Rattle.golay.specs.Calls.{wrong_length}
use Rattle.hard.proofs.Meaning.{no_answer}
use Rattle.reading.specs.Cases.{all_zeros}
use Rattle.reading.specs.Checks.{most_negative}
use Rattle.signs.specs.Signs.{sign_word}
use Rattle.signs.specs.Fillings.{zeros, Filling}
use Rattle.signs.proofs.Fillings.{sign_filling, filling_alone}
use Rattle.signs.proofs.Opposite.{opposite}
use Rattle.decision.specs.Decision.{Decides}
use Rattle.decision.proofs.Decided.{decides_six}
use Rattle.decision.proofs.Deciding.{decided-close}
use Rattle.quick.specs.Quick.{Settles, settled, unsettled, Answers, QuickRule, SignsRule}
use Rattle.quick.proofs.Rules.{quick_settles, quick-once}
use Rattle.quick.proofs.Settling.{many_unsettled}

-- Rule 9.7: for a reading without zeros the rule is that for its word of signs
pub without_zeros : (xs : List ℤ) → zeros xs ≡ 0 → QuickRule xs ≡ SignsRule xs
unfolding QuickRule SignsRule
without_zeros xs z = ap (λ (n : ℕ). Refuse WrongLength (wrong_length positions xs) (Refuse MostNegative (most_negative xs) (Answers n xs))) z

-- ---- how an answer comes about

data Way (xs : List ℤ) (a : Answer ℕ) : Type 0 where
  length-refused : a ≡ refused 1 → Way xs a
  negative-refused : a ≡ refused 2 → Way xs a
  by_signs : length xs ≡ 24 → zeros xs ≡ 0 → Decides (sign_word xs) xs a → Way xs a
  by_fillings : length xs ≡ 24 → 0 < zeros xs → Settles xs a → Way xs a

way : (xs : List ℤ) (a : Answer ℕ) → QuickRule xs a → Way xs a
unfolding QuickRule
way xs a r = long (eqb (length xs) 24) refl r
  where
    valid : length xs ≡ 24 → (n : ℕ) → zeros xs ≡ n → Answers n xs a → Way xs a
    valid l zero z d = by_signs l z d
    valid l (suc n) z s = by_fillings l (omega arith) s

    low : length xs ≡ 24 → (b : Bool) → Refuse MostNegative b (Answers (zeros xs) xs) a → Way xs a
    low l true p = negative-refused p
    low l false p = valid l (zeros xs) refl p

    long : (b : Bool) → eqb (length xs) 24 ≡ b → Refuse WrongLength (not b) (Refuse MostNegative (most_negative xs) (Answers (zeros xs) xs)) a → Way xs a
    long true e p = low (eqb-true (length xs) 24 e) (most_negative xs) p
    long false e p = length-refused p

-- ---- what that says

-- Rule 9.8: whatever is answered, every filling is decided for it
pub every_filling : (xs : List ℤ) (c : ℕ) → QuickRule xs (accepted c) → (word : ℕ) → Filling xs word → Decides word xs (accepted c)
every_filling xs c r word F = go (way xs (accepted c) r)
  where
    go : Way xs (accepted c) → Decides word xs (accepted c)
    go (length-refused e) = absurd (no_answer e)
    go (negative-refused e) = absurd (no_answer e)
    go (by_signs l z d) = subst (λ (w : ℕ). Decides w xs (accepted c)) (sym (filling_alone xs z word F)) d
    go (by_fillings l h (settled S)) = S.each word F

-- Rule 9.8: a reading of zeros alone, however long, is not answered
pub zeros-not-answered : (xs : List ℤ) → zeros xs ≡ length xs → (c : ℕ) → QuickRule xs (accepted c) → ⊥
zeros-not-answered xs z c r = go (way xs (accepted c) r)
  where
    go : Way xs (accepted c) → ⊥
    go (length-refused e) = no_answer e
    go (negative-refused e) = no_answer e
    go (by_signs l n d) = omega (arith, z, l, n)
    go (by_fillings l h (settled S)) = omega (arith, z, l, S.few)

-- two refusals that are equal have one number
number_same : {m n : ℕ} → ◌≡◌ {A = Answer ℕ} (refused m) (refused n) → m ≡ n
number_same e = cc

-- Rule 9.7: 6 is given without zeros only
pub six_without_zeros : (xs : List ℤ) → QuickRule xs (refused 6) → zeros xs ≡ 0
six_without_zeros xs r = go (way xs (refused 6) r)
  where
    never : (a : Answer ℕ) → Settles xs a → a ≡ refused 6 → ⊥
    never a (settled S) e = no_answer e
    never a (unsettled n) e = omega (arith, number_same e)

    go : Way xs (refused 6) → zeros xs ≡ 0
    go (length-refused e) = absurd (omega (arith, number_same e))
    go (negative-refused e) = absurd (omega (arith, number_same e))
    go (by_signs l z d) = z
    go (by_fillings l h s) = absurd (never (refused 6) s refl)

-- Rule 9.8: 14 is given with zeros only
pub fourteen_with_zeros : (xs : List ℤ) → QuickRule xs (refused 14) → 0 < zeros xs
fourteen_with_zeros xs r = go (way xs (refused 14) r)
  where
    go : Way xs (refused 14) → 0 < zeros xs
    go (length-refused e) = absurd (omega (arith, number_same e))
    go (negative-refused e) = absurd (omega (arith, number_same e))
    go (by_signs l z d) = absurd (omega (arith, decides_six d))
    go (by_fillings l h s) = h

-- Rule 9.8: and to every valid reading with five zeros or more
pub many_zeros_unsettled :
    (xs : List ℤ) → length xs ≡ 24 → most_negative xs ≡ false → 4 < zeros xs → (a : Answer ℕ) → QuickRule xs a → a ≡ refused 14
many_zeros_unsettled xs l m h a r =
    quick-once xs a (refused 14) r (quick_settles xs l m (refused 14) (omega arith) (many_unsettled h))

-- Rule 9.8: no reading is refused for having more than four zeros alone: if all fillings are decided for one codeword, there are no more, since one
-- of them differs from that codeword at every zero
pub four-at-most :
    (xs : List ℤ) → length xs ≡ 24 → (c : ℕ) → ((word : ℕ) → Filling xs word → Decides word xs (accepted c)) → zeros xs ≤ 4
four-at-most xs l c all =
    let h = (decided-close (all (sign_word xs) (sign_filling xs))).short in
    let (word, F, apart) = opposite xs c (subst (λ (n : ℕ). c < 2 ^ n) (sym l) h) in
    let e = ap (λ (n : ℕ). distance n word c) l in
    omega (arith, apart, e, (decided-close (all word F)).apart)

-- Rule 16.6: 24 zeros
pub all-zeros-unsettled : (a : Answer ℕ) → QuickRule all_zeros a → a ≡ refused 14
unfolding zeros
all-zeros-unsettled = many_zeros_unsettled all_zeros refl refl (omega arith)
