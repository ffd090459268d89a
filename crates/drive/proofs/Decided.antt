-- Call by call: two returns that a promise allows are equal, and so is what they leave in the outputs.
-- Assumes nothing.
use mathlib.Core.Path.{◌≡◌}
use mathlib.Core.List.{List}
use Prim.Native.Nat.{ℕ}
use lib.IntN.{ℤ}
use Rattle.golay.specs.Calls.{encode_rule, read_rule, syndrome_rule}
use Rattle.bytewise.specs.Bytes.{bytes_of}
use Rattle.bytewise.specs.Calls.{write_bytes_rule, read_bytes_rule}
use Rattle.hard.specs.Answers.{Finding, Correction}
use Rattle.hard.specs.Calls.{Finds, apply_rule, Corrects}
use Rattle.hard.proofs.Decided.{find-once, correct-once}
use Rattle.favours.specs.Calls.{column_figure_rule}
use Rattle.soft.specs.declared.kinds.Soft.{Soft}
use Rattle.soft.specs.Calls.{ClassFigureRule, SoftRule}
use Rattle.soft.proofs.Decided.{class_figure-once, soft-once}
use Rattle.quick.specs.Quick.{QuickRule}
use Rattle.quick.proofs.Rules.{quick-once}
use Rattle.receivers.specs.Calls.{Chooses}
use Rattle.receivers.proofs.Decided.{choice-once}
use Rattle.tally.specs.Counts.{Counts}
use Rattle.tally.proofs.Decided as tally
use Rattle.hands.specs.Hands.{HandsBack, HandsBackOne, itself}
use Rattle.hands.proofs.Hands.{hands_decided, hands_one_decided}
use Rattle.onwords.specs.Outputs.{HandsBackCandidates}
use Rattle.onwords.proofs.Outputs.{hands_candidates_decided}

-- what a promise of outputs before, outputs after and a status leaves open: nothing
abbrev Decided : {M : Type 0} → (M → M → ℕ → Type 0) → Type 0
Decided {M} Promise = (before after later : M) (status other : ℕ) → Promise before after status → Promise before later other → (status ≡ other) × (after ≡ later)

pub encode-decided : (message : ℕ) → Decided (HandsBack (encode_rule message) itself)
encode-decided message before after later status other = hands_decided

pub read-decided : (word : ℕ) → Decided (HandsBack (read_rule word) itself)
read-decided word before after later status other = hands_decided

pub syndrome-decided : (word : ℕ) → Decided (HandsBack (syndrome_rule word) itself)
syndrome-decided word before after later status other = hands_decided

pub find-decided : (word : ℕ) → Decided {M = Finding} (HandsBackOne (Finds word) itself)
find-decided word before after later status other = hands_one_decided (find-once word)

pub apply-decided : (word pattern : ℕ) → Decided (HandsBack (apply_rule word pattern) itself)
apply-decided word pattern before after later status other = hands_decided

pub correct-decided : (word : ℕ) → Decided {M = Correction} (HandsBackOne (Corrects word) itself)
correct-decided word before after later status other = hands_one_decided (correct-once word)

pub candidates-decided : (word : ℕ) → Decided (HandsBackCandidates word)
candidates-decided word before after later status other = hands_candidates_decided

pub class_figure-decided : (reading : List ℤ) (class : ℕ) → Decided {M = ℤ} (HandsBackOne (ClassFigureRule reading class) itself)
class_figure-decided reading class before after later status other = hands_one_decided (class_figure-once reading class)

pub column_figure-decided : (reading : List ℤ) (class column : ℕ) → Decided (HandsBack (column_figure_rule reading class column) itself)
column_figure-decided reading class column before after later status other = hands_decided

pub soft-decided : (reading : List ℤ) → Decided {M = Soft} (HandsBackOne (SoftRule reading) itself)
soft-decided reading before after later status other = hands_one_decided (soft-once reading)

pub quick-decided : (reading : List ℤ) → Decided {M = ℕ} (HandsBackOne (QuickRule reading) itself)
quick-decided reading before after later status other = hands_one_decided (quick-once reading)

-- a call without outputs: the choice alone
pub better-decided : (first second : List ℤ) (number choice other : ℕ)
    → Chooses first second number choice → Chooses first second number other → choice ≡ other
better-decided first second number choice other = choice-once

-- tally and table are read and written
pub count-decided : (reading : List ℤ) → Decided (Counts reading)
count-decided reading before after later status other = tally.count-decided

-- the buffer's contents before the call decide the answer too
pub write_bytes-decided :
    (codeword : ℕ)
    → Decided {M = List ℕ} (λ before after status. HandsBack (write_bytes_rule codeword before) (λ x. bytes_of codeword) before after status)
write_bytes-decided codeword before after later status other = hands_decided

pub read_bytes-decided : (bytes : List ℕ) → Decided (HandsBack (read_bytes_rule bytes) itself)
read_bytes-decided bytes before after later status other = hands_decided
