-- What is said of the system holds after each capture.
-- Assumes nothing.
use Rattle.outside.specs.Reader.{StaysShown}
use Rattle.report.proofs.count_all.Given as goal

abbrev pub invariant-loop-place : goal.invariant-loop-place
invariant-loop-place l = StaysShown l.initial.system l.system
