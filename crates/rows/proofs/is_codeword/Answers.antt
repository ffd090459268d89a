-- The codewords are the words whose syndrome is 0 (4.2).
use mathlib.Core.Path.{◌∙◌, sym, ap}
use Prim.Native.Nat.{ℕ, ◌%◌}
use lib.Dec.{eqb}
use Rattle.code.specs.Code.{words}
use Rattle.code.proofs.Syndromes.{codeword_test}
use Rattle.rows.proofs.is_codeword.Goals as goal

pub returns : goal.returns
returns c = ap (λ (s : ℕ). eqb s 0) c.syndrome_of.ensures ∙ sym (codeword_test (c.args.word % words))
