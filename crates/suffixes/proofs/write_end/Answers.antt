-- A count of 16 bits has at most five digits, so its end is short.
use Rattle.std.proofs.Common.{◌≤◌, ◌<◌, ◌^◌, ℕ, length, length-append, arith, rules}
use Rattle.std.proofs.Math.Dec.{lit≤}
use Rattle.texts.specs.Texts.{decimal}
use Rattle.texts.proofs.Decimal.{decimal-short}
use Rattle.suffixes.proofs.write_end.Goals as goal

-- a count of 16 bits has at most five digits
digits : (n : ℕ) → n < 2 ^ 16 → length (decimal n) ≤ 5
digits n h = decimal-short 16 5 n (lit≤ tt) (lit≤ tt) h

pub returns-in-Lost-clause-follows_len_bound : goal.returns-in-Lost-clause-follows_len_bound
returns-in-Lost-clause-follows_len_bound c =
    let fits : c.in-Lost.n < 2 ^ 16 = search rules in
    simp (c.in-Lost.is, length-append) (omega (arith, digits c.in-Lost.n fits))
