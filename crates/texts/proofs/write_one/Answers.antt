-- Once the line has room, its pieces are put one after the other.
use Rattle.std.proofs.Common.{◌≡◌, List, ◌++◌, ℕ, length, sym, ap, ◌∙◌, arith, rules}
use borrow.Author.Tests.{ltb-true}
use Rattle.texts.specs.Texts.{decimal}
use Rattle.texts.proofs.Buffers.{puts_then, puts_text, puts_writes, no_room}
use Rattle.texts.proofs.Lengths.{length-one}
use Rattle.texts.proofs.Decimal.{decimal_same}
use Rattle.texts.proofs.write_one.Goals as goal

pub returns-then-exceeds : goal.returns-then-exceeds
returns-then-exceeds c =
    let digits : c.as_bytes-digits.result.now ≡ decimal c.args.n = c.as_bytes-digits.ensures.value ∙ c.format.ensures.text ∙ decimal_same c.args.n (search rules) in
    no_room _ c.args.out.now c.args.at (rw length-one (omega (arith, ap length digits, ltb-true _ _ (sym c.exceeds.ensures ∙ c.if-exceeds.true))))

pub returns : goal.returns
returns c =
    let digits : c.as_bytes-digits.result.now ≡ decimal c.args.n = c.as_bytes-digits.ensures.value ∙ c.format.ensures.text ∙ decimal_same c.args.n (search rules) in
    let numbered = puts_text (ap (λ (ds : List ℕ). c.args.word.now ++ ds) digits) c.copy_both-p.ensures in
    puts_writes (puts_then numbered c.copy.ensures)
