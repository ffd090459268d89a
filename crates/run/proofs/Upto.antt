-- The run up to a place of the bytes: its text so far stands in the buffer, and what is left of the bytes, after the previous number there, gives
-- the rest. By what stands at the place, the run goes on, ends or stops.
-- Assumes nothing.
use mathlib.Core.Path.{◌≡◌, refl, sym, ap, ◌∙◌}
use mathlib.Core.Bool.{Bool, true, false}
use mathlib.Core.List.{List, [], ◌++◌, append_assoc, append-nil}
use Prim.Native.Nat.{ℕ, ◌+◌, ◌≤◌, ◌<◌, ◌^◌}
use native.Mathlib.Nat.{add-zero}
use native.Mathlib.Omega.{arith}
use lib.IntN.{ℤ}
use lib.ListN.{length, drop}
use Rattle.std.specs.Prelude.{Option}
use Rattle.golay.specs.Answers.{Answer}
use Rattle.sequence.specs.declared.kinds.Follows.{Follows}
use Rattle.sequence.specs.Sequence.{follows_from, previous_after}
use Rattle.records.specs.Records.{ended, stopped, whole, stands_at, in_piece, next_from, number_of, reading_of}
use Rattle.records.specs.Capture.{run_from, ending}
use Rattle.lines.specs.Lines.{answer_line, stopped_line, longest}
use Rattle.texts.specs.Buffers.{put, Puts, Writes}
use Rattle.texts.proofs.Buffers.{puts_then, puts_text, writes_puts}
use Rattle.lines.proofs.Lengths.{stopped-short}
use Rattle.records.proofs.Standing.{whole_takes, takes_room}
use Rattle.records.proofs.Running.{told-ended, told-stopped, told-whole}
use Rattle.decoding.specs.Decoding.{Decoder}
use Rattle.decoding.proofs.Decoding.{a_decoder}
use Rattle.answers.specs.Telling.{Tells}
use Rattle.run.specs.Output.{lines, lines_from}
use Rattle.run.specs.Runs.{Room, Runs}

-- over bytes that are the last of the input, or not, after a number and at an offset
module _ (last : Bool) (first : Option ℕ) (offset : ℕ) (bytes before : List ℕ) where
  -- what was told of the bytes before a place, and what is left to tell
  pub record Told (decode : List ℤ → Answer (ℕ × ℕ)) (after : List ℕ) (previous : Option ℕ) (at to : ℕ) : Type 0 where
    pub text : List ℕ
    pub puts : Puts text before 0 after to
    pub rest : lines_from decode last first offset bytes ≡ text ++ lines_from decode last previous (offset + at) (drop at bytes)

  pub record Upto (after : List ℕ) (previous : Option ℕ) (at to : ℕ) : Type 0 where
    pub within : at ≤ length bytes
    pub short : to ≤ at
    pub long : length after ≡ length before
    pub told : (decode : List ℤ → Answer (ℕ × ℕ)) → Decoder decode → Told decode after previous at to
    pub ends : run_from ending last first offset bytes ≡ run_from ending last previous (offset + at) (drop at bytes)

  pub up_start : Upto before first 0 0
  unfolding put
  up_start = record {
    within = omega arith;
    short = omega arith;
    long = refl;
    told = λ decode D. record {
      text = [];
      puts = record { room = omega arith; buffer = refl; place = refl };
      rest = ap (λ (k : ℕ). lines_from decode last first k bytes) (sym (add-zero offset));
    };
    ends = ap (λ (k : ℕ). run_from ending last first k bytes) (sym (add-zero offset));
  }

  module _ (room : Room offset (length bytes) (length before)) {after : List ℕ} {previous : Option ℕ} {at to : ℕ} (U : Upto after previous at to) where
    -- where a line stands that has room for any line
    line_at :
        {xs : List ℤ} {follows : Follows} {later : List ℕ} {next : ℕ}
        → Tells xs follows after to later next
        → (decode : List ℤ → Answer (ℕ × ℕ))
        → Decoder decode
        → Puts (answer_line (decode xs) follows) after to later next
    line_at T decode D = writes_puts longest (T.short decode D) (omega (arith, room.lines, U.short, U.within, U.long)) (T.line decode D)

    pub up_record :
        {later : List ℕ} {next end : ℕ}
        → let s = stands_at bytes at in
        next_from at (in_piece last s) ≡ whole next
        → length later ≡ length after
        → Tells (reading_of s) (follows_from previous (number_of s)) after to later end
        → Upto later (previous_after previous (number_of s)) next end
    up_record {later} {next} {end} e same T =
        let s = stands_at bytes at in
        let number = previous_after previous (number_of s) in
        let taken = takes_room (whole_takes last bytes at e) in
        let line = line_at T in
        record {
          within = taken.1;
          short = omega (arith, U.short, T.short a_decoder.0 a_decoder.1, (line a_decoder.0 a_decoder.1).place, taken.0);
          long = same ∙ U.long;
          told = λ decode D.
              let t = U.told decode D in
              let text = answer_line (decode (reading_of s)) (follows_from previous (number_of s)) in
              record {
                text = t.text ++ text;
                puts = puts_then t.puts (line decode D);
                rest = t.rest
                    ∙ ap (λ (l : List ℕ). t.text ++ l) (told-whole (lines decode) last previous offset bytes at e)
                    ∙ sym (append_assoc t.text text (lines_from decode last number (offset + next) (drop next bytes)));
              };
          ends = U.ends ∙ told-whole ending last previous offset bytes at e;
        }

    pub up_ended :
        next_from at (in_piece last (stands_at bytes at)) ≡ ended
        → Runs last first offset bytes before after (record { put = to; stopped = false; through = at; previous = previous })
    up_ended e = record {
      text = λ decode D.
          let t = U.told decode D in
          puts_text
          (sym (t.rest ∙ ap (λ (l : List ℕ). t.text ++ l) (told-ended (lines decode) last previous offset bytes at e) ∙ append-nil t.text))
          t.puts;
      ended = sym (U.ends ∙ told-ended ending last previous offset bytes at e);
    }

    pub up_stopped :
        {later : List ℕ} {n end : ℕ}
        → next_from at (in_piece last (stands_at bytes at)) ≡ stopped n
        → n < 2 ^ 8
        → Writes (stopped_line n (offset + at)) after to later end
        → Runs last first offset bytes before later (record { put = end; stopped = true; through = at; previous = previous })
    up_stopped {later} {n} e small w =
        let line = writes_puts longest
        (stopped-short n (offset + at) small (omega (arith, room.offsets, U.within)))
        (omega (arith, room.lines, U.short, U.within, U.long)) w in
        record {
          text = λ decode D.
              let t = U.told decode D in
              puts_text
              (sym (t.rest ∙ ap (λ (l : List ℕ). t.text ++ l) (told-stopped (lines decode) last previous offset bytes at e)))
              (puts_then t.puts line);
          ended = sym (U.ends ∙ told-stopped ending last previous offset bytes at e);
        }
