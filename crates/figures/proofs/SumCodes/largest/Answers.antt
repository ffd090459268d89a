-- Four figures more are the codes'.
use Rattle.std.proofs.Common.{◌≡◌, ◌+◌, ◌*◌, ◌<◌, arith}
use Rattle.figures.specs.Figures.{figure_at}
use Rattle.figures.proofs.Scoring.{four_more, figure-from}
use Rattle.figures.proofs.SumCodes.largest.Goals as goal

pub loop-q-preserved : goal.loop-q-preserved
loop-q-preserved c =
    let e = c.args.self.now.values in
    let q = c.loop-q.q in
    let known : q < 32 = omega arith in
    let n : 4 * (q + 1) ≡ 4 * q + 4 = four_more q in
    let F = c.first_pair.ensures in
    let is = figure-from e q c.of_codes-others.ensures.sums c.of_codes-others.ensures.leasts known F.sum F.least in
    rw n (c.take_four-t.ensures (figure_at e) is c.loop-q.invariant)
