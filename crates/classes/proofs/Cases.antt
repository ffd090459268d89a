-- The worked readings' answers in the contest of the codewords: a clean signal is accepted with eight times its size, silence is tied, and
-- so is one strong confidence against 23 weak ones.
use mathlib.Core.Path.{◌≡◌, refl, sym}
use mathlib.Core.Logic.{◌≢◌}
use mathlib.Core.Bool.{Bool, true, false}
use mathlib.Core.List.{List, [], ◌∷◌}
use Prim.Native.Nat.{ℕ, ◌*◌, ◌≤◌, ◌<◌}
use native.Mathlib.Omega.{arith}
use native.Mathlib.Decide.{ℕ_discrete}
use lib.Dec.{lit<}
use lib.IntN.{pos}
use lib.ListN.{length, replicate}
use Rattle.signed.proofs.Parts.{ints}
use Rattle.code.specs.Code.{messages, codeword_of}
use Rattle.algebra.proofs.Encoding.{codeword_of-codeword, codeword_lt, codeword_injective}
use Rattle.algebra.proofs.Distances.{codeword-distance}
use Rattle.contest.specs.Words.{distance}
use Rattle.contest.specs.Readings.{Reading, correlation, clean, scores}
use Rattle.contest.specs.Largest.{Largest}
use Rattle.contest.specs.Answers.{Accepted, Tied}
use Rattle.contest.specs.Losses.{loss, weight}
use Rattle.contest.proofs.Bounds.{own_range}
use Rattle.contest.proofs.Decided.{at_level}
use Rattle.contest.proofs.Clean.{clean-loss, clean-accepted, silence_tied}
use Rattle.classes.specs.Codewords.{word}
use Rattle.reading.specs.Cases.{all_ones, all_zeros, one_against}
use Rattle.classes.proofs.Positions.{distance-positions}
use Rattle.classes.proofs.Codewords.{word-long, family, near}

-- Rule 2.3: two codewords, as words of bits, stand at distance 8 or more
pub far_apart : (m k : ℕ) → m < messages → k < messages → k ≢ m → 8 ≤ distance (word m) (word k)
unfolding word
far_apart m k hm hk d =
    rw (distance-positions 24 (codeword_of m) (codeword_of k))
    (codeword-distance (codeword_of m) (codeword_of k) (codeword_lt m hm) (codeword_lt k hk) (codeword_of-codeword m hm) (codeword_of-codeword k hk)
    (λ e. d (sym (codeword_injective m k hm hk e))))

-- the yardstick: a clean signal of size s has reserve 8 s
pub yardstick : (s : ℕ) → 1 ≤ s → (m : ℕ) → m < messages → Accepted messages word (clean s (word m)) m (8 * s)
yardstick s loud m h =
    let n = near m h in
    clean-accepted family far_apart (omega arith) h n.known n.other n.eight s loud

ones-clean : clean 1 (word 0) ≡ all_ones
unfolding word codeword_of
ones-clean = refl

pub ones-accepted : Accepted messages word all_ones 0 8
ones-accepted = rw ones-clean at (yardstick 1 (omega arith) 0 (lit< tt))

pub zeros-tied : Tied messages word all_zeros
zeros-tied = silence_tied family 24

-- ---- one against 23

-- a word that is far from the word of zeros loses 7 at least: 100 where its first bit is 0, else its other ones
against : (bs : List Bool) → length bs ≡ 24 → 8 ≤ distance (replicate 24 false) bs → 7 ≤ loss bs one_against
unfolding distance
against [] e h = absurd (omega arith)
against (false ∷ bs) e h = omega arith
against (true ∷ bs) e h = omega (arith, clean-loss 1 (replicate 23 false) bs (omega arith))

zero_word : word 0 ≡ replicate 24 false
unfolding word codeword_of
zero_word = refl

zero_loses : loss (word 0) one_against ≡ 100
unfolding word codeword_of
zero_loses = refl

all_lose : (k : ℕ) → k < messages → 7 ≤ loss (word k) one_against
all_lose k h = go (ℕ_discrete k 0)
  where
    go : Dec (k ≡ 0) → 7 ≤ loss (word k) one_against
    go (yes e) = rw e (omega (arith, zero_loses))
    go (no d) = against (word k) (word-long k) (rw zero_word at (far_apart 0 k (lit< tt) h d))

valid : Reading (weight one_against) 24 one_against
valid = record { long = refl; range = own_range one_against }

largest : (m : ℕ) → m < messages → scores word one_against m ≡ pos 109 → Largest (scores word one_against) 0 messages m
largest m h e = record {
  from = omega arith;
  below = h;
  most = λ k a b. let l = all_lose k b in omega (ints, at_level family valid k b);
}

-- the codewords F0000F and FF0000, of 253 that share the largest
pub one_against-tied : Tied messages word one_against
unfolding word codeword_of correlation
one_against-tied = record {
  one = 0x010;
  other = 0x018;
  different = λ e. omega (arith, e);
  one-largest = largest 0x010 (lit< tt) refl;
  other-largest = largest 0x018 (lit< tt) refl;
}
