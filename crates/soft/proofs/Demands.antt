-- Demands 2 and 3 (14.2, 14.3) of the soft decoder, for every answer that its promise allows: the theorems of any family of words, at the
-- 4,096 codewords and the range of rule 6.3.
use mathlib.Core.Path.{◌≡◌, refl, sym, ap, ◌∙◌}
use mathlib.Core.Logic.{◌≢◌}
use mathlib.Core.Bool.{false}
use mathlib.Core.List.{List}
use Prim.Native.Nat.{ℕ, ◌≤◌, ◌<◌}
use native.Mathlib.Omega.{arith}
use native.Mathlib.Decide.{ℕ_discrete}
use lib.IntN.{ℤ, pos}
use lib.Signed.{◌≤ℤ◌, ◌<ℤ◌, ≤ℤ_refl}
use Rattle.signed.specs.Within.{Within}
use Rattle.signed.proofs.Parts.{ints}
use Rattle.contest.specs.Readings.{Reading, scores, change}
use Rattle.contest.specs.Largest.{Largest}
use Rattle.contest.specs.Answers.{Accepted, Tied, Answers}
use Rattle.contest.specs.Answers as contest
use Rattle.contest.proofs.Bounds.{range_at}
use Rattle.contest.proofs.Decided.{only-largest}
use Rattle.contest.proofs.Reserve.{score_size, reserve_positive}
use Rattle.contest.proofs.Sharp.{safe, sharp}
use Rattle.code.specs.Code.{messages, positions, codeword_of}
use Rattle.golay.specs.Answers.{Answer, accepted, refused}
use Rattle.classes.specs.Codewords.{word}
use Rattle.classes.specs.Classes.{classes, reached_figure}
use Rattle.classes.proofs.Codewords.{family, reserve_within}
use Rattle.classes.proofs.Figures.{class_reached}
use Rattle.soft.specs.declared.kinds.Soft.{Soft}
use Rattle.reading.specs.Checks.{most_negative}
use Rattle.soft.specs.Calls.{values, told, Decides, SoftRule, ClassFigureRule}
use Rattle.reading.proofs.Checking.{none-negative}
use Rattle.soft.proofs.Rules.{decides_soft, figure-within}
use Rattle.soft.proofs.Decided.{soft-told, class_figure-once}

-- Rule 6.3: a valid reading
abbrev pub Valid : List ℤ → Type 0
Valid xs = Reading 2147483647 positions xs

module _ {xs : List ℤ} (X : Valid xs) where
  usable : most_negative xs ≡ false
  usable = none-negative xs (λ k h. range_at 2147483647 xs X.range k)

  decides : {a : Answer Soft} → SoftRule xs a → Decides xs a
  decides = decides_soft xs X.long usable

  -- what is accepted is accepted by the contest
  contested : {s : Soft} → SoftRule xs (accepted s) → (ρ : ℕ) × (s ≡ values xs s.message.0 ρ) × Accepted messages word xs s.message.0 ρ
  contested {s} r = go (decides r).outcome (decides r).answers (decides r).is
    where
      go : (p : contest.Answer) → Answers messages word xs p → accepted s ≡ told xs p
          → (ρ : ℕ) × (s ≡ values xs s.message.0 ρ) × Accepted messages word xs s.message.0 ρ
      go (contest.accepted m ρ) a e =
          let g : s ≡ values xs m ρ = cc in
          let h : m ≡ s.message.0 = ap (λ (t : Soft). t.message.0) (sym g) in
          (ρ, g ∙ ap (λ (n : ℕ). values xs n ρ) h, rw h at a)
      go contest.tied t e = cc

  -- ---- demand 2 (14.2)

  module _ (s : Soft) (r : SoftRule xs (accepted s)) where
    -- Rule 7.1: the accepted word is the one largest, and the answer's values are its own
    pub accepted-known : s.message.0 < messages
    accepted-known = (contested r).2.known

    pub accepted-codeword : s.codeword.0 ≡ codeword_of s.message.0
    accepted-codeword = ap (λ (t : Soft). t.codeword.0) (contested r).1

    pub accepted-correlation : s.correlation ≡ scores word xs s.message.0
    accepted-correlation = ap (λ (t : Soft). t.correlation) (contested r).1

    pub accepted-only : (k : ℕ) → k < messages → k ≢ s.message.0 → scores word xs k <ℤ s.correlation
    accepted-only k h d = let g = (contested r).2.only k h d in let e = accepted-correlation in omega ints

    -- Rule 6.5: the bound of a correlation's size
    pub correlation-size : Within 51539607528 s.correlation
    correlation-size = rw accepted-correlation (score_size family X accepted-known)

    -- Rule 7.3: the range of a reserve
    reserve_is : s.reserve ≡ pos (contested r).0
    reserve_is = ap (λ (t : Soft). t.reserve) (contested r).1

    pub reserve_least : pos 1 ≤ℤ s.reserve
    reserve_least = let e = reserve_is in omega (ints, reserve_positive family X (contested r).2)

    pub reserve_largest : s.reserve ≤ℤ pos 17179869176
    reserve_largest = let e = reserve_is in let h = reserve_within X (contested r).2 in omega ints

  -- Rule 7.4: refused with 6 exactly if two codewords have the largest correlation
  pub tied-refused : Tied messages word xs → (a : Answer Soft) → SoftRule xs a → a ≡ refused 6
  tied-refused = soft-told xs X.long usable contest.tied

  pub refused-tied : {n : ℕ} → SoftRule xs (refused n) → Tied messages word xs × (n ≡ 6)
  refused-tied {n} r = go (decides r).outcome (decides r).answers (decides r).is
    where
      go : (p : contest.Answer) → Answers messages word xs p → refused n ≡ told xs p → Tied messages word xs × (n ≡ 6)
      go (contest.accepted m ρ) a e = cc
      go contest.tied t e = (t, cc)

  -- Rule 7.1: a reading with one best word is accepted, for that word
  pub best-accepted : (m : ℕ) → m < messages → ((k : ℕ) → k < messages → k ≢ m → scores word xs k <ℤ scores word xs m)
      → (a : Answer Soft) → SoftRule xs a → (s : Soft) × (a ≡ accepted s) × (s.message.0 ≡ m)
  best-accepted m h only (accepted s) r = (s, refl, sym (only-largest (contested r).2 m (record { from = omega arith; below = h; most = largest })))
    where
      largest : (k : ℕ) → 0 ≤ k → k < messages → scores word xs k ≤ℤ scores word xs m
      largest k a b = go (ℕ_discrete k m)
        where
          go : Dec (k ≡ m) → scores word xs k ≤ℤ scores word xs m
          go (yes e) = rw e (≤ℤ_refl (scores word xs m))
          go (no d) = let g = only k b d in omega ints
  best-accepted m h only (refused n) r =
      let t = (refused-tied r).0 in
      absurd (t.different (alone t.one-largest ∙ sym (alone t.other-largest)))
    where
      alone : {k : ℕ} → Largest (scores word xs) 0 messages k → k ≡ m
      alone {k} L = go (ℕ_discrete k m)
        where
          go : Dec (k ≡ m) → k ≡ m
          go (yes e) = e
          go (no d) =
              let g = only k L.below d in
              let u = L.most m (omega arith) h in
              absurd (omega ints)

-- ---- demand 3 (14.3)

-- a word that the contest does not accept is not the answer's
not-answered : {ys : List ℤ} (Y : Valid ys) {m : ℕ} → ((σ : ℕ) → ¬ Accepted messages word ys m σ) → (t : Soft) → SoftRule ys (accepted t) → t.message.0 ≢ m
not-answered {ys} Y {m} never t q = go (contested Y q).0 (contested Y q).2
  where
    go : (σ : ℕ) → Accepted messages word ys t.message.0 σ → t.message.0 ≢ m
    go σ a e = never σ (rw e at a)

module _ {xs : List ℤ} (X : Valid xs) (s : Soft) (r : SoftRule xs (accepted s)) where
  -- Rule 7.6: any change that adds up to less than the reserve is answered with the same word
  pub reserve_safe : {ys : List ℤ} → Valid ys → pos (change xs ys) <ℤ s.reserve
      → (a : Answer Soft) → SoftRule ys a → (t : Soft) × (a ≡ accepted t) × (t.message.0 ≡ s.message.0)
  reserve_safe {ys} Y h a q =
      let e = reserve_is X s r in
      let A = (safe family X (contested X r).2 Y (omega ints)).2 in
      best-accepted Y s.message.0 A.known A.only a q

  -- Rule 7.7: and some valid reading that is away by exactly the reserve is not
  pub reserve_sharp : (ys : List ℤ) × Valid ys × (s.reserve ≡ pos (change xs ys)) × ((t : Soft) → SoftRule ys (accepted t) → t.message.0 ≢ s.message.0)
  reserve_sharp =
      let v = sharp family X (contested X r).2 in (
        v.0,
        v.1,
        reserve_is X s r ∙ ap pos (sym v.2),
        not-answered v.1 v.3,
      )

-- ---- the class figure

-- Rule 8.6: every answer for a class is what its six sums reach
pub figure-reached : {xs : List ℤ} → Valid xs → (k : ℕ) → k < classes → (a : Answer ℤ) → ClassFigureRule xs k a → a ≡ accepted (reached_figure xs k)
figure-reached {xs} X k h a r =
    let F = class_reached xs X.long k h in
    class_figure-once xs k a (accepted (reached_figure xs k)) r
    (figure-within xs k X.long (usable X) h (record { message = F.at; largest = F.largest; is = ap accepted F.is }))
