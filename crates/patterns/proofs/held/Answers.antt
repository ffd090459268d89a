-- A field that holds none is passed, and the first other one tells how many there are.
use Rattle.std.proofs.Common.{◌≡◌, ◌∙◌, sym, ap, ℕ, suc, ◌+◌, ◌-◌, ◌/◌, ◌%◌, arith}
use borrow.Author.Tests.{eq-eqb, ne_eqb}
use Rattle.patterns.specs.Positions as positions
use Rattle.patterns.proofs.held.Goals as goal

here : (n word : ℕ) → (word % 32 ≡ 31 → ⊥) → positions.held (suc n) word ≡ suc n
here n word d = simp (ne_eqb (word % 32) 31 d)

next : (n word : ℕ) → word % 32 ≡ 31 → positions.held (suc n) word ≡ positions.held n (word / 32)
next n word e = simp (eq-eqb (word % 32) 31 e)

pub returns-then-left-ne-NONE : goal.returns-then-left-ne-NONE
returns-then-left-ne-NONE c =
    let l = c.loop-passed in
    let n : 4 - l.passed ≡ suc (3 - l.passed) = omega arith in
    n ∙ sym (here (3 - l.passed) l.left c.if-left-ne-NONE.true) ∙ ap (λ (k : ℕ). positions.held k l.left) (sym n) ∙ l.invariant

pub loop-passed-preserved : goal.loop-passed-preserved
loop-passed-preserved c =
    let l = c.loop-passed in
    let n : 4 - l.passed ≡ suc (4 - (l.passed + 1)) = omega arith in
    sym (next (4 - (l.passed + 1)) l.left c.if-left-ne-NONE.false) ∙ ap (λ (k : ℕ). positions.held k l.left) (sym n) ∙ l.invariant

pub returns : goal.returns
returns c =
    let l = c.loop-passed in
    let n : 0 ≡ 4 - l.passed = omega arith in
    ap (λ (k : ℕ). positions.held k l.left) n ∙ l.invariant
