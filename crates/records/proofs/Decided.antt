-- Two answers that the promise of `stands_at` allows are equal.
-- Assumes nothing.
use mathlib.Core.Path.{◌≡◌, refl, ap}
use mathlib.Core.Bool.{Bool}
use mathlib.Core.List.{List}
use Prim.Native.Nat.{ℕ}
use Rattle.golay.proofs.Decided.{said_once, reason, reason_number}
use Rattle.records.specs.declared.kinds.Stands.{Stands}
use Rattle.records.specs.declared.kinds.Stands.TheVariants.{End, Record, Stopped}
use Rattle.records.specs.Records.{Standing, ended, stopped, whole, stands_at, in_piece, next_from, stands_answer}

stands_again : Standing ℕ → Stands
stands_again ended = End
stands_again (stopped n) = Stopped (reason n)
stands_again (whole next) = Record next

stands_back : (r : Stands) → stands_again (stands_answer r) ≡ r
unfolding stands_again
stands_back End = refl
stands_back (Record next) = refl
stands_back (Stopped r) = ap Stopped (reason_number r)

pub stands_decided :
    (bytes : List ℕ) (at : ℕ) (last : Bool) (x y : Stands)
    → stands_answer x ≡ next_from at (in_piece last (stands_at bytes at))
    → stands_answer y ≡ next_from at (in_piece last (stands_at bytes at))
    → x ≡ y
stands_decided bytes at last = said_once stands_answer stands_again stands_back
