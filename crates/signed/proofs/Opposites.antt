-- Of a number and its opposite, its size is the larger, and its sign says which that is.
use mathlib.Core.Path.{◌≡◌, refl}
use Prim.Native.Nat.{zero, suc}
use lib.IntN.{ℤ, pos, negsuc, nat_abs, neg_ℤ}
use Rattle.signed.specs.Opposites.{larger, Opposites}
use Rattle.signed.proofs.Parts.{ints, hi-neg, lo-neg}

size-larger : (f : ℤ) → larger f (neg_ℤ f) ≡ pos (nat_abs f)
size-larger (pos zero) = refl
size-larger (pos (suc n)) = refl
size-larger (negsuc n) = refl

pub opposites : {f first second : ℤ} → first ≡ f → second ≡ neg_ℤ f → Opposites f first second
opposites {f} a b = record {
  itself = a;
  negated = b;
  size = rw (a, b) (size-larger f);
  positive = λ h. omega (ints, hi-neg f, lo-neg f);
  negative = λ h. omega (ints, hi-neg f, lo-neg f);
  neither = λ e. omega (ints, hi-neg f, lo-neg f);
}
