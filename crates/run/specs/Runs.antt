-- Rules 12.9 and 13.1 over a piece of a capture: what the run over some bytes leaves.
use Rattle.std.specs.Prelude.{◌≡◌, Bool, true, false, List, ℕ, ◌+◌, ◌≤◌, ◌<◌, ◌^◌, ℤ, length, Option}
use Rattle.golay.specs.Answers.{Answer}
use Rattle.lines.specs.Lines.{longest}
use Rattle.texts.specs.Buffers.{Puts}
use Rattle.records.specs.Capture.{run_from, Ending, ending}
use Rattle.decoding.specs.Decoding.{Decoder}
use Rattle.run.specs.Output.{lines_from}
use Rattle.run.specs.declared.kinds.Outcome.{Outcome}

-- room for the text of n bytes that begin at an offset: a record has more bytes than a line, so a buffer of as many bytes and one line more
-- has it; and no offset passes 64 bits
pub record Room (offset n buffer : ℕ) : Type 0 where
  pub lines : n + longest ≤ buffer
  pub offsets : offset + n < 2 ^ 64

-- a test that tells whether there is none
pub record Lacks (offset n buffer : ℕ) (r : Bool) : Type 0 where
  pub missing : r ≡ true → Room offset n buffer → ⊥
  pub found : r ≡ false → Room offset n buffer

-- how a run ended, by its outcome: whether it stopped, the previous number then, and the offset up to which it came
abbrev pub ending_of : ℕ → Outcome → Ending
ending_of offset r = record { stopped = r.stopped; previous = r.previous; offset = offset + r.through }

-- Rules 13.1 and 12.9: of the last bytes of the input, or of others, which begin after a previous number and at an offset: the text at the start
-- of the buffer, how long it is, and how the run ended
pub record Runs (last : Bool) (previous : Option ℕ) (offset : ℕ) (bytes before after : List ℕ) (r : Outcome) : Type 0 where
  pub text : (decode : List ℤ → Answer (ℕ × ℕ)) → Decoder decode → Puts (lines_from decode last previous offset bytes) before 0 after r.put
  pub ended : ending_of offset r ≡ run_from ending last previous offset bytes

-- the outcome of a run that has no room. No other is like it, since a run that stops puts the line of its stop: `never_unrun`,
-- proofs/Decided.antt
abbrev pub unrun : Option ℕ → Outcome
unrun previous = record { put = 0; stopped = true; through = 0; previous = previous }

-- a run over any bytes into any buffer: without room nothing is written
pub record RunRule (last : Bool) (previous : Option ℕ) (offset : ℕ) (bytes before after : List ℕ) (r : Outcome) : Type 0 where
  pub room : Room offset (length bytes) (length before) → Runs last previous offset bytes before after r
  pub none : (Room offset (length bytes) (length before) → ⊥) → (after ≡ before) × (r ≡ unrun previous)
