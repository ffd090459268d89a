-- Two answers that a promise allows are equal, and so is what they leave in the buffer.
-- Assumes nothing.
use mathlib.Core.Path.{◌≡◌, refl, sym, ap, ◌∙◌}
use mathlib.Core.List.{List}
use Prim.Native.Nat.{ℕ}
use Rattle.std.specs.Prelude.{Result}
use Rattle.golay.specs.declared.kinds.Refusal.{Refusal}
use Rattle.golay.specs.declared.kinds.Codeword.{Codeword}
use Rattle.golay.proofs.Decided.{answer-once}
use Rattle.bytewise.specs.Answers.{lent, write_bytes_answer, read_bytes_answer}
use Rattle.bytewise.specs.Bytes.{bytes_of}
use Rattle.bytewise.specs.Calls.{read_bytes_rule, WritesBytes}

pub read_bytes-decided :
    (bytes : List ℕ) (x y : Result Codeword Refusal)
    → read_bytes_answer x ≡ read_bytes_rule bytes → read_bytes_answer y ≡ read_bytes_rule bytes → x ≡ y
read_bytes-decided bytes = answer-once (λ codeword. codeword.0) (λ n. record { 0 = n }) (λ x. refl)

-- the answer and what the buffer holds afterwards
pub write_bytes-decided :
    (word : ℕ) (before : List ℕ) (x y : Result (Unit {0}) Refusal) (after later : List ℕ)
    → WritesBytes word before (write_bytes_answer x) after
    → WritesBytes word before (write_bytes_answer y) later
    → (x ≡ y) × (after ≡ later)
write_bytes-decided word before x y after later p q =
    let e = answer-once (λ u. u) (λ u. u) (λ u. refl) x y p.answered q.answered in
    (e, p.buffer ∙ ap (λ (r : Result (Unit {0}) Refusal). lent (write_bytes_answer r) before (bytes_of word)) e ∙ sym q.buffer)
