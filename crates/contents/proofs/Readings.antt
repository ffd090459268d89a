-- The confidences of some bytes, one by one, and the word that four bytes hold.
-- Assumes nothing.
use mathlib.Core.Path.{◌≡◌, refl, ap, ◌∙◌}
use mathlib.Core.Bool.{Bool, true, false}
use mathlib.Core.List.{List, [], ◌∷◌}
use Prim.Native.Nat.{ℕ, zero, suc, ◌+◌, ◌*◌, ◌^◌, ◌≤◌, ◌<◌}
use native.Mathlib.Nat.{add-zero}
use native.Mathlib.Omega.{arith}
use lib.Dec.{ltb}
use lib.IntN.{ℤ, pos}
use lib.ListN.{length, get_or, take, drop, length-drop}
use lib.Seq.{drop-drop, get_or-drop}
use borrow.Author.Tests.{lt-ltb, le-ltb, ltb-true, ltb-false}
use Rattle.std.proofs.Common.{w8, w32, Fits, FitsSigned, to_z, of_z}
use Rattle.std.proofs.lemmas.Int.{ints, to_z-of_z}
use Rattle.golay.specs.Bytes.{word_of}
use Rattle.records.specs.Records.{twos_complement, confidence_of, confidences_of}

pub length-confidences : (n : ℕ) (bytes : List ℕ) → length (confidences_of n bytes) ≡ n
unfolding confidences_of
length-confidences zero bytes = refl
length-confidences (suc n) bytes = ap suc (length-confidences n (drop 4 bytes))

pub confidence-at : (n i : ℕ) (bytes : List ℕ) → i < n → get_or (confidences_of n bytes) i (pos 0) ≡ confidence_of (drop (4 * i) bytes)
unfolding confidences_of
confidence-at zero i bytes h = let e : ⊥ = omega arith in absurd e
confidence-at (suc n) zero bytes h = refl
confidence-at (suc n) (suc i) bytes h =
    let e : 4 + 4 * i ≡ 4 * suc i = omega arith in
    confidence-at n i (drop 4 bytes) (omega arith) ∙ ap confidence_of (drop-drop (4 * i) 4 bytes ∙ ap (λ (k : ℕ). drop k bytes) e)

four-front :
    (l : List ℕ) → 4 ≤ length l → get_or l 0 0 * 0x100_0000 + get_or l 1 0 * 0x1_0000 + get_or l 2 0 * 0x100 + get_or l 3 0 ≡ word_of (take 4 l)
four-front [] h = let e : ⊥ = omega arith in absurd e
four-front (a ∷ []) h = let e : ⊥ = omega arith in absurd e
four-front (a ∷ b ∷ []) h = let e : ⊥ = omega arith in absurd e
four-front (a ∷ b ∷ c ∷ []) h = let e : ⊥ = omega arith in absurd e
four-front (a ∷ b ∷ c ∷ d ∷ l) h = omega arith

-- the word that four bytes from a place on hold
module _ (bytes : List ℕ) (from : ℕ) (h : from + 4 ≤ length bytes) where
  pub four-at :
      get_or bytes from 0 * 0x100_0000 + get_or bytes (from + 1) 0 * 0x1_0000 + get_or bytes (from + 2) 0 * 0x100 + get_or bytes (from + 3) 0
      ≡ word_of (take 4 (drop from bytes))
  four-at =
      let l : 4 ≤ length (drop from bytes) = simp length-drop (omega arith) in
      simp (get_or-drop, add-zero) at (four-front (drop from bytes) l)

-- the library takes a word's top bit as the rules do
below : (word : ℕ) → word < 2 ^ 31 → to_z w32 word ≡ twos_complement word
unfolding twos_complement
below word h = rw (lt-ltb word (2 ^ 31) h) (omega (arith, ints))

above : (word : ℕ) → 2 ^ 31 ≤ word → word < 2 ^ 32 → to_z w32 word ≡ twos_complement word
unfolding twos_complement
above word l u = rw (le-ltb word (2 ^ 31) l) (omega (arith, ints))

signed : (word : ℕ) → word < 2 ^ 32 → to_z w32 word ≡ twos_complement word
signed word u = cases (ltb word (2 ^ 31)) refl
  where
    cases : (b : Bool) → ltb word (2 ^ 31) ≡ b → to_z w32 word ≡ twos_complement word
    cases true e = below word (ltb-true word (2 ^ 31) e)
    cases false e = above word (ltb-false word (2 ^ 31) e) u

-- four bytes from a place on, as the library reads them, hold a confidence
pub confidence_from :
    (bytes : List ℕ) (from : ℕ) (r : ℤ)
    → from + 4 ≤ length bytes
    → ((i : ℕ) → Fits w8 (get_or bytes i 0))
    → FitsSigned w32 r
    → r ≡ to_z w32 (get_or bytes from 0 * 0x100_0000 + get_or bytes (from + 1) 0 * 0x1_0000 + get_or bytes (from + 2) 0 * 0x100 + get_or bytes (from + 3) 0)
    → to_z w32 (of_z w32 r) ≡ confidence_of (drop from bytes)
confidence_from bytes from r h byte fits e =
    let b : (i : ℕ) → get_or bytes i 0 < 256 = λ i. (byte i).fits in
    to_z-of_z w32 r fits
    ∙ e
    ∙ signed
    (get_or bytes from 0 * 0x100_0000 + get_or bytes (from + 1) 0 * 0x1_0000 + get_or bytes (from + 2) 0 * 0x100 + get_or bytes (from + 3) 0)
    (omega (arith, b from, b (from + 1), b (from + 2), b (from + 3)))
    ∙ ap twos_complement (four-at bytes from h)
