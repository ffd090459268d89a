-- A turn keeps one merit more.
-- Assumes nothing.
use Rattle.std.proofs.Common.{◌≡◌, ◌∙◌, sym, subst, ℕ, ℤ, ◌∷◌, arith, add-one, below_more}
use lib.Dec.{lit<}
use Rattle.signed.specs.Within.{Within}
use Rattle.signed.proofs.Locals.{fits, lowest, reads}
use Rattle.contest.specs.Kept.{Kept, seen, run}
use Rattle.contest.proofs.KeptSpan.{kept-best}
use Rattle.signs.specs.Signs.{whole}
use Rattle.decision.specs.Decision.{merits}
use Rattle.decision.proofs.cheapest.Goals as goal

pub loop-i-preserved : goal.loop-i-preserved
loop-i-preserved c =
    let m = c.merit-in-loop-i.ensures in
    let l = c.loop-i in
    let f = merits c.args.word (whole 24 c.args.reading.now) c.args.slots.now in
    let w : Within 51539607552 (f l.i) = rw m.value at m.within in
    record {
      kept =
          subst (λ (n : ℕ). Kept (run f n) c.take-kept.result) (sym (add-one l.i))
          (subst (λ (v : ℤ). Kept (seen v l.i ∷ run f l.i) c.take-kept.result) (reads m.within (lit< tt) ∙ m.value)
          (c.take-kept.ensures.kept (run f l.i) l.invariant.kept));
      each = below_more _ l.i l.invariant.each w;
    }

pub returns : goal.returns
returns c =
    let l = c.loop-i in
    let e : l.i ≡ 6 = omega arith in
    let f = merits c.args.word (whole 24 c.args.reading.now) c.args.slots.now in
    kept-best f 6 (omega arith) (λ k h. lowest (fits (l.invariant.each k (omega arith)) (lit< tt)))
    (subst (λ (n : ℕ). Kept (run f n) l.kept) e l.invariant.kept)
