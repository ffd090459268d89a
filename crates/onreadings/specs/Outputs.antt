-- Rule 11.7: the outputs of a call that has several, as one value.
use Rattle.std.specs.Prelude.{ℕ, ℤ}
use Rattle.soft.specs.declared.kinds.Soft.{Soft}

abbrev pub values : ℕ → ℕ → ℤ → ℤ → Soft
values message codeword correlation reserve = record {
  message = record { 0 = message };
  codeword = record { 0 = codeword };
  correlation = correlation;
  reserve = reserve;
}
