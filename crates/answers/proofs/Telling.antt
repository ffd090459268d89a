-- A line tells the decoder's answer, whichever answer the soft decoder gave.
-- Assumes nothing.
use mathlib.Core.Path.{◌≡◌, sym, ap, ◌∙◌}
use mathlib.Core.List.{List}
use Prim.Native.Nat.{ℕ, ◌≤◌}
use lib.IntN.{ℤ}
use lib.ListN.{length}
use Rattle.golay.specs.Answers.{Answer}
use Rattle.soft.specs.declared.kinds.Soft.{Soft}
use Rattle.soft.specs.Calls.{SoftRule}
use Rattle.sequence.specs.declared.kinds.Follows.{Follows}
use Rattle.lines.specs.Lines.{answer_line, longest}
use Rattle.texts.specs.Buffers.{Writes}
use Rattle.texts.proofs.Decided.{writes-decided}
use Rattle.decoding.specs.Decoding.{message_and_reserve, Decoder}
use Rattle.decoding.proofs.Decoding.{a_decoder, tells}
use Rattle.answers.specs.Telling.{Tells}

-- the line of an answer that the soft decoder's promise allows
pub answer-told :
    (xs : List ℤ) (a : Answer Soft) (follows : Follows) {text before after : List ℕ} {at next : ℕ}
    → SoftRule xs a
    → text ≡ answer_line (message_and_reserve a) follows
    → length text ≤ longest
    → Writes text before at after next
    → Tells xs follows before at after next
answer-told xs a follows {text} r e short w = record { line = λ decode D. rw (line decode D) at w; short = λ decode D. rw (line decode D) at short }
  where
    line : (decode : List ℤ → Answer (ℕ × ℕ)) → Decoder decode → text ≡ answer_line (decode xs) follows
    line decode D = e ∙ ap (λ (a : Answer (ℕ × ℕ)). answer_line a follows) (sym (tells decode D xs a r))

-- two outcomes that the promise of an answer's line allows are equal: what the buffer holds afterwards, and the place
pub tells_decided :
    {xs : List ℤ} {follows : Follows} {before after later : List ℕ} {at next other : ℕ}
    → Tells xs follows before at after next
    → Tells xs follows before at later other
    → (after ≡ later) × (next ≡ other)
tells_decided p q = let (decode, D) = a_decoder in writes-decided (p.line decode D) (q.line decode D)
