-- Words have no ones above their 24 positions.
use mathlib.Core.Path.{◌∙◌, sym, ap}
use lib.Bits.{bit_xor, xor_lt}
use lib.Dec.{lit≤}
use Rattle.binary.proofs.Ones.{ones_beyond}
use Rattle.golay.specs.Answers.{accepted}
use Rattle.golay.proofs.Rules.{distance-within}
use Rattle.golay.proofs.distance.Goals as goal

pub returns : goal.returns
returns c =
    let a = c.args.a in
    let b = c.args.b in
    let ha = c.if-a-ge-WORDS.false in
    let hb = c.if-b-ge-WORDS.false in
    ap accepted (c.ones.ensures ∙ ones_beyond 24 32 (bit_xor a b) (xor_lt 24 a b ha hb) (lit≤ tt)) ∙ sym (distance-within a b ha hb)
