-- How long a line is: never more than the longest.
-- Assumes nothing.
use Prim.Native.Nat.{ℕ, ◌^◌, ◌≤◌, ◌<◌}
use native.Mathlib.Omega.{arith}
use lib.Dec.{lit≤}
use lib.ListN.{length, length-append}
use Rattle.texts.proofs.Decimal.{decimal-short}
use Rattle.sequence.specs.declared.kinds.Follows.{Follows}
use Rattle.suffixes.specs.Suffixes.{end_of, longest_end}
use Rattle.lines.specs.Lines.{header, accepted_line, refused_line, stopped_line, longest}

pub header-short : length header ≤ longest
header-short = lit≤ tt

-- by what the line ends with
module _ (follows : Follows) (short : length (end_of follows) ≤ longest_end) where
  pub accepted-short : (message reserve : ℕ) → message < 2 ^ 32 → reserve < 2 ^ 64 → length (accepted_line message reserve follows) ≤ longest
  accepted-short m r h l =
      simp length-append
      (omega (arith, decimal-short 32 10 m (lit≤ tt) (lit≤ tt) h, decimal-short 64 20 r (lit≤ tt) (lit≤ tt) l, simp length-append at short))

  pub refused-short : (number : ℕ) → number < 2 ^ 8 → length (refused_line number follows) ≤ longest
  refused-short n h = simp length-append (omega (arith, decimal-short 8 3 n (lit≤ tt) (lit≤ tt) h, simp length-append at short))

pub stopped-short : (number offset : ℕ) → number < 2 ^ 8 → offset < 2 ^ 64 → length (stopped_line number offset) ≤ longest
stopped-short n o h l = simp length-append (omega (arith, decimal-short 8 3 n (lit≤ tt) (lit≤ tt) h, decimal-short 64 20 o (lit≤ tt) (lit≤ tt) l))
