-- Encoding and reading back are linear, so all codewords are sums of the twelve (3.6). Encoding gives codewords; each codeword below 2^24 is
-- the encoding of exactly one message; reading back and encoding undo each other.
-- Assumes nothing.
use mathlib.Core.Path.{◌≡◌, refl, sym, ap, ◌∙◌}
use mathlib.Core.List.{List, [], ◌∷◌}
use Prim.Native.Nat.{ℕ, ◌+◌, ◌*◌, ◌%◌, ◌<◌}
use native.Mathlib.Nat.{add_assoc}
use lib.Dec.{T, lit<}
use lib.Bits.{bit_xor}
use lib.ListN.{get_or}
use Rattle.binary.specs.Words.{row_sum}
use Rattle.binary.proofs.Xor.{xor_zero_eq}
use Rattle.binary.proofs.Linear.{Additive, additive_after, additive_sum, row_sum-add, row_sum_lt, agree}
use Rattle.code.specs.Array.{total, interpretations, interpretation}
use Rattle.code.specs.Code.{messages, words, bit_of, top_bits, is_codeword, codeword_of, message_of, syndrome_of}
use Rattle.code.proofs.Twelve.{codeword_rows, twelve_codewords}
use Rattle.code.proofs.Columns.{Added, AddedParity, added_xor, side_by_side, added_plus, bits-read, made, times_w, times_v, bit-parity, no_parity, parity-read, top_read, projection-read}
use Rattle.code.proofs.Syndromes.{syndrome-add, codeword_zero, zero_codeword}

-- ---- the codeword, as a row for each bit of the message

none : Added 0 0 0 0
none = record { sum = refl; left = lit< tt; right = lit< tt }

-- a column, from its parity, its character and its top bit
column_added :
    {p x t p' x' t' p'' x'' t'' : ℕ}
    → Added 1 p p' p''
    → Added 2 x x' x''
    → Added 1 t t' t''
    → Added 4 (interpretation p x t) (interpretation p' x' t') (interpretation p'' x'' t'')
column_added {p} {x} {t} {p'} {x'} {t'} {p''} {x''} {t''} s c u =
    let place : Added 4 (p * 8 + x * 2 + t) (p' * 8 + x' * 2 + t') (p'' * 8 + x'' * 2 + t'') =
    rw (add_assoc (p * 8) (x * 2) t, add_assoc (p' * 8) (x' * 2) t', add_assoc (p'' * 8) (x'' * 2) t'')
    (side_by_side 3 s (side_by_side 1 c u)) in
    made (λ n. get_or interpretations n 0) (0b1111 ∷ 0b0011 ∷ 0b0101 ∷ 0b0111 ∷ []) 4 4 tt tt place

module _ (m k : ℕ) where
  sixth-top_added : Added 1 ((bit_of 11 m + total (top_bits m)) % 2) ((bit_of 11 k + total (top_bits k)) % 2) ((bit_of 11 (bit_xor m k) + total (top_bits (bit_xor m k))) % 2)
  sixth-top_added =
      let t : (i : ℕ) → AddedParity (bit_of i m) (bit_of i k) (bit_of i (bit_xor m k)) = λ i. bit-parity (bits-read 1 m k i) in
      (added_plus (t 11) (added_plus (t 4) (added_plus (t 3) (added_plus (t 2) (added_plus (t 1) (added_plus (t 0) no_parity)))))).parities

  codeword_added : Added 24 (codeword_of m) (codeword_of k) (codeword_of (bit_xor m k))
  unfolding codeword_of
  codeword_added =
      let p = bits-read 1 m k 11 in
      let a = bits-read 2 m k 9 in
      let b = bits-read 2 m k 7 in
      let c = bits-read 2 m k 5 in
      let t = bits-read 1 m k in
      side_by_side 20 (column_added p a (t 4))
      (side_by_side 16 (column_added p b (t 3))
      (side_by_side 12 (column_added p c (t 2))
      (side_by_side 8 (column_added p (added_xor (added_xor a b) c) (t 1))
      (side_by_side 4 (column_added p (added_xor (added_xor (times_v a) (times_w b)) c) (t 0))
      (side_by_side 0 (column_added p (added_xor (added_xor (times_w a) (times_v b)) c) sixth-top_added)
      none)))))

codeword-add : Additive codeword_of
codeword-add m k = (codeword_added m k).sum

pub codeword_rows_lem : (m : ℕ) → m < messages → codeword_of m ≡ row_sum codeword_rows m
codeword_rows_lem = agree codeword_of (row_sum codeword_rows) codeword-add (row_sum-add codeword_rows) 12 twelve_codewords

-- ---- the message, as a row for each position, position 24 first

module _ (a b : ℕ) where
  message_added : Added 12 (message_of a) (message_of b) (message_of (bit_xor a b))
  unfolding message_of
  message_added =
      let x = projection-read a b in
      let t = top_read a b in
      side_by_side 1
      (side_by_side 1
      (side_by_side 1
      (side_by_side 1
      (side_by_side 1 (side_by_side 2 (side_by_side 2 (side_by_side 2 (parity-read a b 20) (x 20)) (x 16)) (x 12)) (t 20))
      (t 16))
      (t 12))
      (t 8))
      (t 4)

message-add : Additive message_of
message-add a b = (message_added a b).sum

pub message_lt : (word : ℕ) → message_of word < messages
message_lt word = (message_added word word).left

abbrev pub message_rows : List ℕ
message_rows =
    0x000 ∷ 0x000 ∷ 0x000 ∷ 0x000 ∷ 0x000 ∷ 0x000 ∷ 0x000 ∷ 0x001 ∷ 0x000 ∷ 0x000 ∷ 0x000 ∷ 0x002 ∷ 0x060 ∷ 0x040 ∷ 0x020 ∷ 0x004
    ∷ 0x180 ∷ 0x100 ∷ 0x080 ∷ 0x008 ∷ 0xE00 ∷ 0xC00 ∷ 0xA00 ∷ 0x810 ∷ []

pub message_rows_lem : (word : ℕ) → word < words → message_of word ≡ row_sum message_rows word
unfolding message_of
message_rows_lem = agree message_of (row_sum message_rows) message-add (row_sum-add message_rows) 24 tt

-- ---- encoding and reading back

pub codeword_lt : (m : ℕ) → m < messages → codeword_of m < words
codeword_lt m h = rw (codeword_rows_lem m h) (row_sum_lt 24 codeword_rows tt m)

-- the codeword of a message has syndrome zero, so it is a codeword
pub codeword_of-codeword : (m : ℕ) → m < messages → T (is_codeword (codeword_of m))
unfolding syndrome_of
codeword_of-codeword m h =
    zero_codeword (codeword_of m)
    (ap syndrome_of (codeword_rows_lem m h)
    ∙ agree (λ k. syndrome_of (row_sum codeword_rows k)) (λ k. 0)
    (additive_after syndrome_of (row_sum codeword_rows) syndrome-add (row_sum-add codeword_rows)) (λ a b. refl) 12 tt m h)

-- a message comes back from its codeword
pub message-codeword : (m : ℕ) → m < messages → message_of (codeword_of m) ≡ m
unfolding message_of
message-codeword m h =
    ap message_of (codeword_rows_lem m h)
    ∙ agree (λ k. message_of (row_sum codeword_rows k)) (λ k. k)
    (additive_after message_of (row_sum codeword_rows) message-add (row_sum-add codeword_rows)) (λ a b. refl) 12 tt m h

-- what a word differs by from the codeword of its message depends on its syndrome alone
abbrev rest_rows : List ℕ
rest_rows = 3 ∷ 5 ∷ 48 ∷ 80 ∷ 768 ∷ 1280 ∷ 15 ∷ 7 ∷ 112 ∷ 1792 ∷ 28672 ∷ 458752 ∷ []

rest_of_word : (word : ℕ) → word < words → bit_xor (row_sum codeword_rows (message_of word)) word ≡ row_sum rest_rows (syndrome_of word)
unfolding message_of syndrome_of
rest_of_word =
    agree (λ word. bit_xor (row_sum codeword_rows (message_of word)) word) (λ word. row_sum rest_rows (syndrome_of word))
    (additive_sum (λ word. row_sum codeword_rows (message_of word)) (λ word. word)
    (additive_after (row_sum codeword_rows) message_of (row_sum-add codeword_rows) message-add) (λ a b. refl))
    (additive_after (row_sum rest_rows) syndrome_of (row_sum-add rest_rows) syndrome-add) 24 tt

-- a codeword is the codeword of its message
pub codeword-message : (word : ℕ) → word < words → T (is_codeword word) → codeword_of (message_of word) ≡ word
codeword-message word h t =
    codeword_rows_lem (message_of word) (message_lt word)
    ∙ xor_zero_eq (row_sum codeword_rows (message_of word)) word (rest_of_word word h ∙ ap (row_sum rest_rows) (codeword_zero word t))

pub codeword_injective : (m k : ℕ) → m < messages → k < messages → codeword_of m ≡ codeword_of k → m ≡ k
codeword_injective m k hm hk e = sym (message-codeword m hm) ∙ ap message_of e ∙ message-codeword k hk
