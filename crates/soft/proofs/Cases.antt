-- The worked readings, of every answer that the soft decoder's promise allows: a clean signal of any codeword, 24 ones among them; 24 zeros;
-- and one strong confidence against 23 weak ones, where the quick decoder answers.
use mathlib.Core.Path.{◌≡◌, refl, ap, ◌∙◌}
use Prim.Native.Nat.{ℕ, ◌*◌, ◌≤◌, ◌<◌}
use lib.IntN.{ℤ, pos}
use Rattle.contest.specs.Readings.{correlation, clean}
use Rattle.contest.specs.Answers as contest
use Rattle.contest.proofs.Bounds.{range_at}
use Rattle.contest.proofs.Clean.{clean-long, clean-correlation, clean-range}
use Rattle.code.specs.Code.{messages, codeword_of}
use Rattle.golay.specs.Answers.{Answer, accepted, refused}
use Rattle.reading.proofs.Checking.{none-negative}
use Rattle.classes.specs.Codewords.{word}
use Rattle.reading.specs.Cases.{all_ones, all_zeros, one_against}
use Rattle.classes.proofs.Codewords.{word-long}
use Rattle.classes.proofs.Cases.{yardstick, ones-accepted, zeros-tied, one_against-tied}
use Rattle.soft.specs.declared.kinds.Soft.{Soft}
use Rattle.soft.specs.Calls.{SoftRule}
use Rattle.soft.proofs.Decided.{soft-told}

-- a clean signal of size s is answered with its word, the correlation 24 s and the reserve 8 s
pub clean-answered : (s : ℕ) → 1 ≤ s → s ≤ 2147483647 → (m : ℕ) → m < messages
    → (a : Answer Soft) → SoftRule (clean s (word m)) a
    → a ≡ accepted (record { message = record { 0 = m }; codeword = record { 0 = codeword_of m }; correlation = pos (24 * s); reserve = pos (8 * s) })
clean-answered s loud fits m h a r =
    let xs = clean s (word m) in
    soft-told xs (clean-long s (word m) ∙ word-long m) (none-negative xs (λ k l. range_at 2147483647 xs (clean-range fits (word m)) k))
    (contest.accepted m (8 * s)) (yardstick s loud m h) a r
    ∙ ap (λ (c : ℤ). accepted (record { message = record { 0 = m }; codeword = record { 0 = codeword_of m }; correlation = c; reserve = pos (8 * s) }))
    (clean-correlation s (word m) ∙ ap (λ (l : ℕ). pos (l * s)) (word-long m))

pub ones-answered : (a : Answer Soft) → SoftRule all_ones a
    → a ≡ accepted (record { message = record { 0 = 0 }; codeword = record { 0 = 0 }; correlation = pos 24; reserve = pos 8 })
unfolding word codeword_of correlation
ones-answered = soft-told all_ones refl refl (contest.accepted 0 8) ones-accepted

pub zeros-refused : (a : Answer Soft) → SoftRule all_zeros a → a ≡ refused 6
zeros-refused = soft-told all_zeros refl refl contest.tied zeros-tied

pub one_against-refused : (a : Answer Soft) → SoftRule one_against a → a ≡ refused 6
one_against-refused = soft-told one_against refl refl contest.tied one_against-tied
