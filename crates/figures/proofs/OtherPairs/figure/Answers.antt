-- The figure is that of the sum and of the least, read back from 64 bits.
use Rattle.std.proofs.Common.{◌≡◌, ℕ, ◌+◌, ◌*◌, ◌/◌, ◌%◌, ◌≤◌, min, ◌-ℤ◌, get_or, to_z, of_z, w64, arith, ap, ◌∙◌}
use Rattle.signed.proofs.Locals.{cast_diff_reads}
use Rattle.pairs.specs.Pairs.{widest}
use Rattle.figures.specs.Figures.{scored}
use Rattle.figures.proofs.Scoring.{figure-read, taken_off, scored-within}
use Rattle.figures.proofs.OtherPairs.figure.Goals as goal

-- the sum of all codes, and the least, read back
scored_reads : (s l : ℕ) → s ≤ 6 * widest + 1 → l ≤ 2 * widest
    → to_z w64 (of_z w64 (to_z w64 (s / 8) -ℤ to_z w64 (2 * (l / 8) * (s % 2)))) ≡ scored s l
scored_reads s l a b =
    cast_diff_reads (s / 8) (2 * (l / 8) * (s % 2)) (omega arith) (omega (arith, taken_off l s))

pub returns-clause-value : goal.returns-clause-value
returns-clause-value c =
    let P = c.args.self.now in
    let first = c.args.first in
    let k = c.args.k in
    let i = c.places-i.result.0 in
    let j = c.places-i.result.1 in
    let s = first.sum + get_or P.sums i 0 + get_or P.sums j 0 in
    let l = c.smaller-l.result in
    let l-is : l ≡ min (get_or P.leasts j 0) (min (get_or P.leasts i 0) first.least) = c.smaller-l.ensures ∙ ap (min (get_or P.leasts j 0)) c.smaller.ensures in
    scored_reads s l (omega (arith, first.small_sum, P.usable_sums i, P.usable_sums j)) (omega (arith, l-is, P.usable_leasts j))
    ∙ ap (scored s) l-is
    ∙ figure-read P.sums P.leasts first.sum first.least k c.places-i.ensures.middle c.places-i.ensures.last

pub returns-clause-within : goal.returns-clause-within
returns-clause-within c =
    let P = c.args.self.now in
    let first = c.args.first in
    let i = c.places-i.result.0 in
    let j = c.places-i.result.1 in
    let s = first.sum + get_or P.sums i 0 + get_or P.sums j 0 in
    let l = c.smaller-l.result in
    let a : s ≤ 6 * widest + 1 = omega (arith, first.small_sum, P.usable_sums i, P.usable_sums j) in
    let b : l ≤ 2 * widest = omega (arith, c.smaller-l.ensures, P.usable_leasts j) in
    rw (scored_reads s l a b) (scored-within s l a b)
