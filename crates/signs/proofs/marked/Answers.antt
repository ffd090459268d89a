-- A turn takes one mark more; of a slice that is no reading the word is 0.
-- Assumes nothing.
use Rattle.std.proofs.Common.{rules, arith, ◌≡◌, ◌∙◌, ap, ◌^◌, ◌≤◌, pos, get_or, w32, FitsSigned, add-one, ℕ}
use Rattle.std.proofs.Math.Facts.{to_z-of_z}
use native.Mathlib.Nat.{pow-suc}
use lib.Pow.{pow_mono}
use Rattle.contest.specs.Words.{one}
use Rattle.contest.proofs.Numbers.{one_small}
use Rattle.signs.proofs.Turns.{byte_one, begun, begun_turn, begun_end, none-marked}
use Rattle.signs.proofs.marked.Goals as goal

pub returns-then-reading-ne-POSITIONS-clause-value : goal.returns-then-reading-ne-POSITIONS-clause-value
returns-then-reading-ne-POSITIONS-clause-value g c t k = none-marked t 24 c.args.reading.now c.if-reading-ne-POSITIONS.true

pub loop-x-init : goal.loop-x-init
loop-x-init g c = record { short = omega arith; begun = λ t k. begun c.if-reading-ne-POSITIONS.false }

pub loop-x-preserved : goal.loop-x-preserved
loop-x-preserved g c =
    let l = c.loop-x in
    let xs = c.args.reading.now in
    let b : c.from.result ≡ one c.test.result = c.from.ensures ∙ byte_one c.test.result in
    let f : FitsSigned w32 (get_or xs l.x-index (pos 0)) = search rules in
    record {
      short = omega (arith, b, one_small c.test.result, ap (λ (n : ℕ). 2 ^ n) (add-one l.x-index), pow-suc 2 l.x-index, l.invariant.short);
      begun = λ t k. begun_turn (l.invariant.begun t k) (omega arith) (b ∙ ap one (k (get_or xs l.x-index (pos 0)) f c.test.result (rw (to_z-of_z f) at c.test.ensures)));
    }

pub returns-clause-value : goal.returns-clause-value
returns-clause-value g c t k = (begun_end (c.loop-x.invariant.begun t k) (omega arith)).0

pub returns-clause-short : goal.returns-clause-short
returns-clause-short g c =
    let l = c.loop-x in
    let e : l.x-index ≤ 24 = omega arith in
    omega (arith, l.invariant.short, pow_mono e)
