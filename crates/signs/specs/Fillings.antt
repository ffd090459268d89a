-- Rule 9.2: the zeros of a reading, and its fillings, for any number of positions; and a test that most readings pass.
use Rattle.std.specs.Prelude.{◌≡◌, ◌≢◌, Bool, true, false, List, [], ◌∷◌, ℕ, zero, suc, ◌+◌, ◌-◌, ◌/◌, ◌%◌, ◌^◌, ◌<◌, ℤ, pos, negsuc, length, get_or}
use Rattle.signed.specs.Sign.{sign}
use Rattle.contest.specs.Words.{one}
use Rattle.reading.specs.Checks.{most_negative}
use Rattle.signs.specs.Signs.{marked}

abbrev pub is_zero : ℤ → Bool
is_zero (pos zero) = true
is_zero (pos (suc n)) = false
is_zero (negsuc n) = false

-- how many confidences are zero
unfoldable pub zeros : List ℤ → ℕ
zeros [] = 0
zeros (x ∷ xs) = one (is_zero x) + zeros xs

-- which ones are, as a word
abbrev pub zero_word : List ℤ → ℕ
zero_word xs = marked is_zero xs

-- Rule 9.2: a word that agrees with the signs wherever the confidence is not zero
pub record Filling (xs : List ℤ) (word : ℕ) : Type 0 where
  pub short : word < 2 ^ length xs
  pub agrees : (i : ℕ) → i < length xs → get_or xs i (pos 0) ≢ pos 0 → word / 2 ^ (length xs - (i + 1)) % 2 ≡ one (sign (get_or xs i (pos 0)))

-- n numbers and no more are such: these, numbered from 0, each once
pub record HowMany (Such : ℕ → Type 0) (n : ℕ) : Type 0 where
  pub at : ℕ → ℕ
  pub each : (k : ℕ) → k < n → Such (at k)
  pub every : (m : ℕ) → Such m → (k : ℕ) × (k < n) × (at k ≡ m)
  pub once : (j k : ℕ) → j < n → k < n → at j ≡ at k → j ≡ k

-- Rules 6.3 and 9.2: whether each confidence has a sign and none is the most negative number
pub record Clear (xs : List ℤ) (r : Bool) : Type 0 where
  pub valid : r ≡ true → most_negative xs ≡ false
  pub none : r ≡ true → zeros xs ≡ 0
  pub some : r ≡ false → most_negative xs ≡ false → 0 < zeros xs
