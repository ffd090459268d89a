-- What the candidate call's answers say of the code, with no table: a word at distance 4 has six candidates, which an accepted call wrote; and
-- at refusal 8 no codeword stands at distance 4.
-- Assumes nothing.
use mathlib.Core.Path.{◌≡◌, refl, sym, ap}
use mathlib.Core.Logic.{⊎_elim}
use mathlib.Core.Bool.{Bool, true, false, not}
use mathlib.Core.List.{List}
use Prim.Native.Nat.{ℕ, ◌≤◌, ◌<◌}
use native.Mathlib.Nat.{eq-or-lt_of_le}
use native.Mathlib.Omega.{arith}
use lib.Dec.{T, T_not, nleb→lt, eqb}
use lib.Bits.{bit_xor}
use Rattle.binary.specs.Words.{ones, distance}
use Rattle.code.specs.Code.{words, syndrome_of}
use Rattle.code.proofs.Syndromes.{syndrome_lt}
use Rattle.golay.specs.declared.kinds.Refusal.TheVariants.{WrongLength, WordAbove, NotDistanceFour}
use Rattle.golay.specs.Answers.{accepted, refused, refuse}
use Rattle.golay.specs.Calls.{word_above, wrong_length}
use Rattle.patterns.specs.Patterns.{IsPattern}
use Rattle.table.proofs.Entries.{pattern-ones}
use Rattle.patterns.proofs.Nearest.{pattern_nearest, only-within}
use Rattle.hard.proofs.Meaning.{no_answer}
use Rattle.candidates.specs.Candidates.{Candidate, Candidates}
use Rattle.candidates.specs.Calls.{candidates_rule, WritesCandidates}
use Rattle.candidates.proofs.Arrange.{arrange, arrange_candidates}

-- Rule 5.7: a word at distance 4 from the code has six candidates
pub six-candidates : (word p : ℕ) → word < words → IsPattern (syndrome_of word) p → ones 24 p ≡ 4 → (cs : List ℕ) × Candidates word cs
six-candidates word p h r o =
    (arrange word (syndrome_of word) 24, arrange_candidates word (syndrome_of word) (record { within = h; syndrome = refl; pattern = p; rule = r; four = o }))

pub candidates-accepted : {word : ℕ} {before after : List ℕ} → WritesCandidates word before (accepted tt) after → Candidates word after
candidates-accepted p = p.slots

eight_tests :
    (long above at-four : Bool)
    → refused 8 ≡ refuse WrongLength long (refuse WordAbove above (refuse NotDistanceFour (not at-four) (accepted (tt {0}))))
    → T (not above) × T (not at-four)
eight_tests true b c e = absurd cc
eight_tests false true c e = absurd cc
eight_tests false false true e = absurd (no_answer (sym e))
eight_tests false false false e = (tt, tt)

not-four : (n : ℕ) → n ≤ 4 → T (not (eqb n 4)) → n ≤ 3
not-four n h t = ⊎_elim (λ e. absurd (T_not (eqb n 4) t (rw e tt))) (λ l. omega arith) (eq-or-lt_of_le h)

-- Rule 5.8: where the answer is 8, no codeword stands at distance 4
pub candidates_eight : {word : ℕ} {before after : List ℕ} → WritesCandidates word before (refused 8) after → (c : ℕ) → Candidate word c → ⊥
unfolding candidates_rule
candidates_eight {word} {before} w c k =
    let p = w.pattern in
    let tests = eight_tests (wrong_length 6 before) (word_above word) (eqb (ones 24 p) 4) w.answered in
    let h = nleb→lt words word tests.0 in
    let o = not-four (ones 24 p) (pattern-ones (syndrome_lt word) w.rule) tests.1 in
    let only : c ≡ bit_xor word p = only-within word p h w.rule c k.short k.codeword (omega (arith, k.apart)) in
    omega (arith, k.apart, ap (distance 24 word) only, (pattern_nearest word p h w.rule).apart)
