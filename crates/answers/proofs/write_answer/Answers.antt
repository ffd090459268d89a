-- The soft decoder's answer is the one that any decoder tells, and its line is short.
use Rattle.std.proofs.Common.{ℕ, ap, ◌∙◌, rules, w64, SFits}
use Rattle.std.proofs.lemmas.Int.{to_z-of_z}
use lib.IntN.{nat_abs}
use Rattle.golay.specs.Refusals.{number}
use Rattle.golay.specs.Answers.{accepted, refused}
use Rattle.lines.specs.Lines.{accepted_line, refused_line}
use Rattle.answers.proofs.Telling.{answer-told}
use Rattle.answers.proofs.write_answer.Goals as goal

pub returns-in-Ok : goal.returns-in-Ok
returns-in-Ok c =
    let s = c.in-Ok.values in
    let fit : SFits w64 s.reserve = search rules in
    let reserve = c.size-reserve.ensures ∙ ap nat_abs (to_z-of_z w64 s.reserve fit) in
    answer-told c.args.reading.now (accepted s) c.args.follows c.in-Ok.ensures
    (ap (λ (k : ℕ). accepted_line s.message.0 k c.args.follows) reserve)
    c.write_accepted.ensures.follows_len_bound
    c.write_accepted.ensures.writes

pub returns-in-Err : goal.returns-in-Err
returns-in-Err c =
    answer-told c.args.reading.now (refused (number c.in-Err.reason)) c.args.follows c.in-Err.ensures
    (ap (λ (n : ℕ). refused_line n c.args.follows) c.from.ensures)
    c.write_refused.ensures.follows_len_bound
    c.write_refused.ensures.writes
