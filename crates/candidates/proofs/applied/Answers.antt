-- Applying does not refuse words.
-- Assumes nothing.
use Rattle.std.proofs.Common.{◌≡◌, ap, ℕ, ◌<◌}
use Rattle.std.specs.Int.Bits.{bit_xor}
use Rattle.std.specs.Prelude.{Result, Ok, Err}
use Rattle.std.specs.Result.{is_ok}
use Rattle.code.specs.Code.{words}
use Rattle.golay.specs.declared.kinds.Refusal.{Refusal}
use Rattle.hard.specs.Answers.{apply_answer}
use Rattle.hard.specs.Calls.{apply_rule}
use Rattle.hard.proofs.Calls as hard
use Rattle.candidates.proofs.applied.Goals as goal

is : {word error : ℕ} → (word < words) × (error < words) → (r : Result ℕ Refusal) → apply_answer r ≡ apply_rule word error → r ≡ Ok (bit_xor word error)
is h (Ok v) rule = ap Ok (hard.applied h.0 h.1 rule)
is h (Err reason) rule = absurd (hard.not-refused h.0 h.1 rule)

pub unwrap-requires : goal.unwrap-requires
unwrap-requires c = ap is_ok (is c.requires c.apply.result c.apply.ensures)

pub returns : goal.returns
returns c = let e = is c.requires c.apply.result c.apply.ensures in cc
