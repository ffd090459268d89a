-- Each confidence is that of its place.
use Rattle.std.proofs.Common.{ℕ, ◌+◌, ◌*◌, ◌<◌, ℤ, pos, drop, sym, ap, ◌∙◌, arith, rules}
use Rattle.std.proofs.lemmas.List.{ext_get_or}
use Rattle.std.proofs.Math.Seq.{drop-drop}
use Rattle.records.specs.Records.{confidence_of, confidences_of}
use Rattle.contents.proofs.Made.{made_at}
use Rattle.contents.proofs.Readings.{length-confidences, confidence-at}
use Rattle.contents.proofs.reading.Goals as goal

pub returns : goal.returns
returns c =
    let bytes = c.args.bytes.now in
    let from = c.args.from in
    let at : (i : ℕ) → ℤ = λ i. confidence_of (drop (from + 4 * i) bytes) in
    let made = made_at _ at _ (λ i y q called. search rules) c.from_fn.result 24 c.from_fn.ensures.items in
    ext_get_or (pos 0) c.from_fn.result (confidences_of 24 (drop from bytes)) (c.from_fn.ensures.items.long ∙ sym (length-confidences 24 _))
    (λ i h.
    let l : i < 24 = omega (arith, c.from_fn.ensures.items.long) in
    made i (pos 0) l ∙ ap confidence_of (sym (drop-drop (4 * i) from bytes)) ∙ sym (confidence-at 24 i (drop from bytes) l))
