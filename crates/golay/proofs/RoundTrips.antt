-- Encoding and reading back undo each other: stated of what the calls answer.
-- Assumes nothing.
use mathlib.Core.Path.{◌≡◌}
use Prim.Native.Nat.{ℕ, ◌<◌}
use Rattle.std.proofs.Common.{rules}
use Rattle.std.proofs.lemmas.Float.{T_from_true}
use Rattle.code.specs.Code.{messages, codeword_of}
use Rattle.algebra.proofs.Encoding.{codeword_lt, codeword_of-codeword, message-codeword, codeword-message, message_lt}
use Rattle.golay.specs.Answers.{accepted}
use Rattle.golay.specs.Calls.{encode_rule, read_rule}

-- every message comes back
pub encoded_reads : (m : ℕ) → m < messages → read_rule (codeword_of m) ≡ accepted m
unfolding read_rule
encoded_reads m h = search (rules, codeword_lt, codeword_of-codeword, message-codeword)

-- a word that is read back as a message is the codeword of that message
pub read_encodes : (word m : ℕ) → read_rule word ≡ accepted m → encode_rule m ≡ accepted word
unfolding read_rule encode_rule
read_encodes word m r = search (rules, message_lt, codeword-message, T_from_true)
