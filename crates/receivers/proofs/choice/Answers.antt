-- By the answers of the soft decoder to the two readings.
use Rattle.std.proofs.Common.{sym, ◌∙◌}
use Rattle.soft.specs.Answers.{soft_answer}
use Rattle.receivers.proofs.Choosing.{no_pair, a_pair}
use Rattle.receivers.proofs.choice.Goals as goal
use Rattle.receivers.proofs.choice.Goals.{then-not-has_reading-via-then-not-has_reading, then-not-has_reading-via-else-not-has_reading+then-not-has_reading-2}

pub returns-then-not-has_reading : goal.returns-then-not-has_reading
returns-then-not-has_reading c =
    elim c.then-not-has_reading.branch [
      | then-not-has_reading-via-then-not-has_reading w ↦
          no_pair c.args.first.now c.args.second.now c.args.number (simp (sym c.has_reading.ensures ∙ w.if-not-has_reading.true))
      | then-not-has_reading-via-else-not-has_reading+then-not-has_reading-2 w ↦
          let one = sym c.has_reading.ensures ∙ w.if-not-has_reading.false in
          no_pair c.args.first.now c.args.second.now c.args.number
          (simp (one, sym w.has_reading-else-not-has_reading.ensures ∙ w.if-not-has_reading-2.true))
    ]

pub returns : goal.returns
returns c =
    a_pair c.args.first.now c.args.second.now c.args.number
    (sym c.has_reading.ensures ∙ c.if-not-has_reading.false)
    (sym c.has_reading-else-not-has_reading.ensures ∙ c.if-not-has_reading-2.false)
    (soft_answer c.soft-one.result)
    (soft_answer c.soft-other.result)
    (rw c.reading_at.ensures.contents at c.soft-one.ensures)
    (rw c.reading_at-2.ensures.contents at c.soft-other.ensures)
    c.larger_reserve.ensures
