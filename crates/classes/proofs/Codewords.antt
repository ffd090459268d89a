-- The 4,096 codewords are a family of words of 24 bits, and from each of them another stands at distance 8: the sum with a codeword that has
-- 8 ones.
use mathlib.Core.Path.{◌≡◌, sym, ap, ◌∙◌}
use mathlib.Core.Logic.{◌≢◌}
use mathlib.Core.List.{List}
use Prim.Native.Nat.{ℕ, ◌*◌, ◌≤◌, ◌<◌}
use native.Mathlib.Omega.{arith}
use lib.Dec.{lit<, lit≤}
use lib.Bits.{bit_xor, xor_lt, xor_self}
use lib.IntN.{ℤ}
use lib.ListN.{length}
use Rattle.binary.specs.Words.{ones}
use Rattle.binary.proofs.Xor.{xor_back}
use Rattle.binary.proofs.Linear.{row_sum-add}
use Rattle.code.specs.Code.{messages, positions, codeword_of}
use Rattle.code.proofs.Twelve.{codeword_rows}
use Rattle.algebra.proofs.Encoding.{codeword_rows_lem, codeword_lt, codeword_injective}
use Rattle.contest.specs.Words.{Family, distance}
use Rattle.contest.specs.Readings.{Reading}
use Rattle.contest.specs.Answers.{Accepted}
use Rattle.contest.proofs.Reserve.{reserve_most}
use Rattle.classes.specs.Codewords.{word}
use Rattle.classes.proofs.Positions.{positions-long, positions_injective, distance-positions}

pub word-long : (m : ℕ) → length (word m) ≡ 24
unfolding word
word-long m = positions-long 24 (codeword_of m)

pub family : Family messages 24 word
unfolding word
family = record {
  two = lit≤ tt;
  long = λ m h. word-long m;
  apart = λ m k hm hk e.
      codeword_injective m k hm hk (positions_injective 24 (codeword_of m) (codeword_of k) (codeword_lt m hm) (codeword_lt k hk) e);
}

-- another message, whose codeword differs from that of m in 8 positions
pub record Near (m : ℕ) : Type 0 where
  pub message : ℕ
  pub known : message < messages
  pub other : message ≢ m
  pub eight : distance (word m) (word message) ≡ 8

pub near : (m : ℕ) → m < messages → Near m
unfolding word ones
near m h =
    let k = bit_xor m 1 in
    let l : k < messages = xor_lt 12 m 1 h (lit< tt) in
    let sum : codeword_of k ≡ bit_xor (codeword_of m) 0x0000FF =
    codeword_rows_lem k l ∙ row_sum-add codeword_rows m 1 ∙ ap (λ (x : ℕ). bit_xor x 0x0000FF) (sym (codeword_rows_lem m h)) in
    record {
      message = k;
      known = l;
      other = λ e. let z : ◌≡◌ {A = ℕ} 1 0 = sym (xor_back m 1) ∙ ap (bit_xor m) e ∙ xor_self m in omega arith;
      eight =
          distance-positions 24 (codeword_of m) (codeword_of k)
          ∙ ap (ones 24) (ap (bit_xor (codeword_of m)) sum ∙ xor_back (codeword_of m) 0x0000FF);
    }

-- so no reserve is larger than eight times the range
pub reserve_within : {B : ℕ} {xs : List ℤ} → Reading B positions xs → {m ρ : ℕ} → Accepted messages word xs m ρ → ρ ≤ 8 * B
reserve_within X {m} a =
    let n = near m a.known in
    rw n.eight at (reserve_most family X a n.message n.known n.other)
