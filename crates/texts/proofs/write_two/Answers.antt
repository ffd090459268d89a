-- Once the line has room, its pieces are put one after the other.
use Rattle.std.proofs.Common.{◌≡◌, List, ◌++◌, ℕ, length, ap, sym, append_assoc, ◌∙◌, arith, rules}
use borrow.Author.Tests.{ltb-true}
use Rattle.texts.specs.Texts.{decimal}
use Rattle.texts.proofs.Buffers.{puts_then, puts_text, puts_writes, no_room}
use Rattle.texts.proofs.Lengths.{length_two}
use Rattle.texts.proofs.Decimal.{decimal_same}
use Rattle.texts.proofs.write_two.Goals as goal

pub returns-then-exceeds : goal.returns-then-exceeds
returns-then-exceeds c =
    let first : c.as_bytes-first.result.now ≡ decimal c.args.m = c.as_bytes-first.ensures.value ∙ c.format.ensures.text ∙ decimal_same c.args.m (search rules) in
    let second : c.as_bytes-second.result.now ≡ decimal c.args.n = c.as_bytes-second.ensures.value ∙ c.format-2.ensures.text ∙ decimal_same c.args.n (search rules) in
    no_room _ c.args.out.now c.args.at (rw length_two (omega (arith, ap length first, ap length second, ltb-true _ _ (sym c.exceeds.ensures ∙ c.if-exceeds.true))))

pub returns : goal.returns
returns c =
    let first : c.as_bytes-first.result.now ≡ decimal c.args.m = c.as_bytes-first.ensures.value ∙ c.format.ensures.text ∙ decimal_same c.args.m (search rules) in
    let second : c.as_bytes-second.result.now ≡ decimal c.args.n = c.as_bytes-second.ensures.value ∙ c.format-2.ensures.text ∙ decimal_same c.args.n (search rules) in
    let m = puts_text (ap (λ (digits : List ℕ). c.args.word.now ++ digits) first) c.copy_both-p.ensures in
    let n = puts_text (ap (λ (digits : List ℕ). c.args.between.now ++ digits) second) c.copy_both-q.ensures in
    let line = sym (append_assoc (c.args.word.now ++ decimal c.args.m) c.args.between.now (decimal c.args.n)) in
    puts_writes (puts_then (puts_text line (puts_then m n)) c.copy.ensures)
