-- What a test that is handed on says of a number. No promise of a call cites it.
use Rattle.std.specs.Prelude.{◌≡◌, Bool, ℤ, FitsSigned}
use Rattle.std.specs.Int.{w32}

-- its answers to numbers of 32 bits are those of a function
abbrev pub Computes : (ℤ → Bool → Type 0) → (ℤ → Bool) → Type 0
Computes Answers test = (x : ℤ) → FitsSigned w32 x → (r : Bool) → Answers x r → r ≡ test x
