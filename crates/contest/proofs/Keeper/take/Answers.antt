-- Its three answers are the step by its tests.
use Rattle.std.proofs.Common.{rules, w64, FitsSigned}
use Rattle.std.proofs.Math.Facts.{to_z-of_z}
use Rattle.signed.proofs.Locals.{lowest}
use Rattle.contest.proofs.Keeping.{taken-best, taken-second, taken_none, keep-step}
use Rattle.contest.proofs.Keeper.take.Goals as goal

pub returns-then-self-value-clause-kept : goal.returns-then-self-value-clause-kept
returns-then-self-value-clause-kept c =
    let a = c.args in
    let b : FitsSigned w64 c.args.self.best = search rules in
    let v = c.ranges.value in
    let e = rw (to_z-of_z b, to_z-of_z v) at c.if-self-value.true in
    simp (to_z-of_z b, to_z-of_z v) (keep-step (lowest b) (taken-best a.self a.value a.at e)).0

pub returns-then-self-value-2-clause-kept : goal.returns-then-self-value-2-clause-kept
returns-then-self-value-2-clause-kept c =
    let a = c.args in
    let b : FitsSigned w64 c.args.self.best = search rules in
    let s : FitsSigned w64 c.args.self.second = search rules in
    let v = c.ranges.value in
    let e = rw (to_z-of_z b, to_z-of_z v) at c.if-self-value.false in
    let g = rw (to_z-of_z s, to_z-of_z v) at c.if-self-value-2.true in
    simp (to_z-of_z b, to_z-of_z v) (keep-step (lowest b) (taken-second a.self a.value a.at e g)).0

pub returns-else-self-value-2-clause-kept : goal.returns-else-self-value-2-clause-kept
returns-else-self-value-2-clause-kept c =
    let a = c.args in
    let b : FitsSigned w64 c.args.self.best = search rules in
    let s : FitsSigned w64 c.args.self.second = search rules in
    let v = c.ranges.value in
    let e = rw (to_z-of_z b, to_z-of_z v) at c.if-self-value.false in
    let g = rw (to_z-of_z s, to_z-of_z v) at c.if-self-value-2.false in
    (keep-step (lowest b) (taken_none a.self a.value a.at e g)).0
