-- The rule of the top row holds for the signs, or for the signs but the least.
use Rattle.std.proofs.Common.{◌≡◌, ◌≢◌, ◌+◌, ◌*◌, ◌<◌, ◌^◌, arith, w64}
use mir.Facts.{to_z_pos}
use Rattle.signed.proofs.Locals.{cast_diff_reads}
use Rattle.details.specs.Details.{Few}
use Rattle.details.specs.declared.Sizes.{Sizes}
use Rattle.details.proofs.Sizing.{settle_same, settle_other}
use Rattle.details.proofs.Sizes.settled.Goals as goal

-- what is cast
record Casts (t : Sizes) : Type 0 where
  total : t.total < 2 ^ 63
  both : 2 * (t.least + t.next) < 2 ^ 63
  least : 2 * t.least < 2 ^ 63
  next : 2 * t.next < 2 ^ 63

casts : {t : Sizes} → Few 6 t → Casts t
casts f = record { total = omega (arith, f.total); both = omega (arith, f.least, f.next); least = omega (arith, f.least); next = omega (arith, f.next) }

pub returns-then-self-p : goal.returns-then-self-p
returns-then-self-p c f fs H six is =
    let t = c.args.self in
    let k = casts c.requires.few in
    let e : t.odd ≡ c.args.p = omega arith in
    rw (cast_diff_reads t.total (2 * (t.least + t.next)) k.total k.both, to_z_pos w64 {n = t.total} k.total)
    (settle_same t c.args.p c.args.base f fs H six is e)

pub returns-else-self-p : goal.returns-else-self-p
returns-else-self-p c f fs H six is =
    let t = c.args.self in
    let k = casts c.requires.few in
    let e : t.odd ≢ c.args.p = omega arith in
    rw (cast_diff_reads t.total (2 * t.least) k.total k.least, cast_diff_reads t.total (2 * t.next) k.total k.next)
    (settle_other t c.args.p c.args.base f fs H six is (omega arith) e)
