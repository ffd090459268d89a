-- A reading that the buffer holds lies within it.
use mathlib.Core.Path.{◌≡◌, sym, ◌∙◌}
use mathlib.Core.Bool.{true}
use Prim.Native.Nat.{ℕ, ◌+◌, ◌-◌, ◌*◌, ◌≤◌}
use native.Mathlib.Omega.{arith}
use borrow.Author.Rules.{rules}
use lib.ListN.{length}
use Rattle.buffers.specs.Buffers.{has_reading, reading_at}
use Rattle.buffers.proofs.Holding.{held-room, reading-none, begins-held, begins-none}
use Rattle.buffers.proofs.reading_at.Goals as goal
use Rattle.buffers.proofs.reading_at.Goals.{Else-not-has_reading}

held : (c : Else-not-has_reading) → has_reading c.args.buffer.now c.args.number ≡ true
held c = sym c.has_reading.ensures ∙ c.if-not-has_reading.false

room : (c : Else-not-has_reading) → 24 * c.args.number + 24 ≤ length c.args.buffer.now
room c = held-room _ _ (held c)

span : (n : ℕ) → 24 * n + 24 - 24 * n ≡ 24
span n = omega arith

pub returns-then-not-has_reading : goal.returns-then-not-has_reading
returns-then-not-has_reading c =
    let e = sym c.has_reading.ensures ∙ c.if-not-has_reading.true in
    record {
      contents = sym (reading-none c.args.buffer.now c.args.number e);
      begins = sym (begins-none c.args.buffer.now c.args.number e c.args.buffer.ref_ptr);
    }

pub overflow_mul-from : goal.overflow_mul-from
overflow_mul-from c = let h = room c in search rules

pub overflow_add-result : goal.overflow_add-result
overflow_add-result c = let h = room c in search rules

pub offset_bounds-buffer-from : goal.offset_bounds-buffer-from
offset_bounds-buffer-from c = let h = room c in search rules

pub slice_bounds-result-end-2 : goal.slice_bounds-result-end-2
slice_bounds-result-end-2 c = let h = room c in search rules

pub returns : goal.returns
unfolding reading_at
returns c =
    let e = sym c.has_reading.ensures ∙ c.if-not-has_reading.false in
    record {
      contents = rw (span c.args.number) (simp e);
      begins = sym (begins-held c.args.buffer.now c.args.number e c.args.buffer.ref_ptr);
    }
