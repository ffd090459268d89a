-- The message is in its range, so it has a codeword.
use Rattle.std.proofs.Common.{rules, refl, w64, FitsSigned, lit<, pos, ◌-ℤ◌}
use Rattle.std.proofs.Math.Facts.{to_z-of_z}
use lib.Signed.{quot_z}
use Rattle.signed.proofs.Locals.{fits, reads, le_left}
use Rattle.soft.proofs.Answering.{encoded, not-refused, answer-accepted}
use Rattle.soft.proofs.answered.Goals as goal

pub returns : goal.returns
returns c xs X A =
    let w = c.requires in
    let n = le_left {w = w64} (fits w.best (lit< tt)) (fits w.second (lit< tt)) c.if-t.false in
    let lead : FitsSigned w64 (c.args.t.best -ℤ c.args.t.second) = search rules in
    let half : FitsSigned w64 (quot_z (c.args.t.best -ℤ c.args.t.second) (pos 2)) = search rules in
    rw
    (reads w.best (lit< tt), reads w.second (lit< tt), to_z-of_z lead, to_z-of_z half)
    (answer-accepted A X n (encoded w.at c.in_ok-encode.ensures) refl refl)

pub returns-in_err-encode : goal.returns-in_err-encode
returns-in_err-encode c xs X A = not-refused c.requires.at c.in_err-encode.ensures
