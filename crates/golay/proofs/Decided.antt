-- Two answers that a promise allows are equal: each call's answer can be made again from the number and the values that it stands for.
-- Assumes nothing.
use mathlib.Core.Path.{◌≡◌, refl, sym, ap, ◌∙◌}
use mathlib.Core.Bool.{Bool, true, false, cond}
use mathlib.Core.List.{List, [], ◌∷◌}
use Prim.Native.Nat.{ℕ}
use lib.Dec.{eqb}
use Rattle.std.proofs.Common.{rules}
use Rattle.std.specs.Prelude.{Result, Ok, Err}
use Rattle.golay.specs.declared.kinds.Refusal.{Refusal}
use Rattle.golay.specs.declared.kinds.Refusal.TheVariants.{WrongLength, MostNegative, MessageAbove, WordAbove, NotCodeword, Tied, DistanceFour, NotDistanceFour, NoMark, CutShort, ClassAbove, CountFull, Unsettled, NoColumn}
use Rattle.golay.specs.declared.kinds.Codeword.{Codeword}
use Rattle.golay.specs.declared.kinds.Message.{Message}
use Rattle.golay.specs.declared.kinds.Syndrome.{Syndrome}
use Rattle.golay.specs.Refusals.{number}
use Rattle.golay.specs.Answers.{Answer, accepted, refused, Refuse, answer_of, encode_answer, read_answer, syndrome_answer, distance_answer}
use Rattle.golay.specs.Calls.{encode_rule, read_rule, syndrome_rule, distance_rule}

-- the law for all calls: where g makes an answer again from what f says of it, two answers of which f says the same are equal
pub said_once : {A B : Type 0} (f : A → B) (g : B → A) → ((a : A) → g (f a) ≡ a) → {b : B} (x y : A) → f x ≡ b → f y ≡ b → x ≡ y
said_once f g back x y p q = sym (back x) ∙ ap g (p ∙ sym q) ∙ back y

-- a refusal in front of a relation that allows one answer leaves one answer
pub refuse-once : {A : Type 0} {Next : Answer A → Type 0} (r : Refusal) (test : Bool) → ((a b : Answer A) → Next a → Next b → a ≡ b)
    → (a b : Answer A) → Refuse r test Next a → Refuse r test Next b → a ≡ b
refuse-once r true once a b p q = p ∙ sym q
refuse-once r false once a b p q = once a b p q

-- all reasons, and the first of them that has a number
abbrev reasons : List Refusal
reasons =
    WrongLength ∷ MostNegative ∷ MessageAbove ∷ WordAbove ∷ NotCodeword ∷ Tied ∷ DistanceFour ∷ NotDistanceFour ∷ NoMark ∷ CutShort ∷ ClassAbove ∷ CountFull ∷ Unsettled ∷ NoColumn ∷ []

abbrev first : List Refusal → ℕ → Refusal
first [] n = WrongLength
first (r ∷ rs) n = cond (eqb (number r) n) r (first rs n)

abbrev pub reason : ℕ → Refusal
reason n = first reasons n

pub reason_number : (r : Refusal) → reason (number r) ≡ r
reason_number r = search rules

-- a call's result is made again from the answer that it says, where its kind is made again from its values
pub again : {T A : Type 0} → (A → T) → Answer A → Result T Refusal
again make (accepted x) = Ok (make x)
again make (refused n) = Err (reason n)

pub again_back : {T A : Type 0} (values : T → A) (make : A → T) → ((x : T) → make (values x) ≡ x) → (r : Result T Refusal) → again make (answer_of values r) ≡ r
unfolding again
again_back values make back (Ok x) = ap Ok (back x)
again_back values make back (Err r) = ap Err (reason_number r)

-- the law for all calls: two results that say the same answer are equal
pub answer-once : {T A : Type 0} (values : T → A) (make : A → T) → ((x : T) → make (values x) ≡ x)
    → {a : Answer A} (x y : Result T Refusal) → answer_of values x ≡ a → answer_of values y ≡ a → x ≡ y
answer-once values make back = said_once (answer_of values) (again make) (again_back values make back)

-- ---- call by call

pub encode-decided : (m : ℕ) (x y : Result Codeword Refusal) → encode_answer x ≡ encode_rule m → encode_answer y ≡ encode_rule m → x ≡ y
encode-decided m = answer-once (λ codeword. codeword.0) (λ n. record { 0 = n }) (λ x. refl)

pub read-decided : (word : ℕ) (x y : Result Message Refusal) → read_answer x ≡ read_rule word → read_answer y ≡ read_rule word → x ≡ y
read-decided word = answer-once (λ message. message.0) (λ n. record { 0 = n }) (λ x. refl)

pub syndrome-decided : (word : ℕ) (x y : Result Syndrome Refusal) → syndrome_answer x ≡ syndrome_rule word → syndrome_answer y ≡ syndrome_rule word → x ≡ y
syndrome-decided word = answer-once (λ s. s.0) (λ n. record { 0 = n }) (λ x. refl)

pub distance-decided : (a b : ℕ) (x y : Result ℕ Refusal) → distance_answer x ≡ distance_rule a b → distance_answer y ≡ distance_rule a b → x ≡ y
distance-decided a b = answer-once (λ d. d) (λ d. d) (λ d. refl)
