-- Writing and reading bytes undo each other: stated of what the calls answer.
-- Assumes nothing.
use mathlib.Core.Path.{◌≡◌, refl, ap, ◌∙◌}
use mathlib.Core.Bool.{true}
use Prim.Native.Nat.{ℕ, ◌<◌}
use Rattle.code.specs.Code.{words, is_codeword}
use Rattle.golay.specs.Answers.{accepted}
use Rattle.bytewise.specs.Bytes.{bytes_of}
use Rattle.bytewise.specs.Calls.{read_bytes_rule}
use Rattle.bytewise.proofs.Rules.{bytes_inside}
use Rattle.bytewise.proofs.Bytes.{word_bytes}

-- a codeword comes back from its three bytes
pub written_reads : (word : ℕ) → word < words → is_codeword word ≡ true → read_bytes_rule (bytes_of word) ≡ accepted word
written_reads word h e =
    let w = word_bytes word h in
    bytes_inside (bytes_of word) refl (ap is_codeword w ∙ e) ∙ ap accepted w
