-- The six codewords at distance four, in ascending order with no sorting. Each is the word with an error of four ones added. Of the errors
-- whose highest place is at most n, the one with place n itself makes a codeword below all the others if the word has a one there, and above
-- them if not.
-- Assumes nothing.
use mathlib.Core.Path.{◌≡◌, refl, sym, ap, ◌∙◌, subst}
use mathlib.Core.Logic.{◌⊎◌, inl, inr, ⊎_elim}
use mathlib.Core.Bool.{Bool, true, false, not}
use mathlib.Core.List.Memᴰ
use mathlib.Core.List.{List, [], ◌∷◌, ◌++◌}
use Prim.Native.Nat.{ℕ, zero, suc, ◌+◌, ◌/◌, ◌%◌, ◌^◌, ◌<◌}
use native.Mathlib.Nat.{div-eq_of_lt, one-mul, eq-or-lt_of_le, le_of_suc-le-suc, not-suc-le-zero}
use native.Mathlib.Omega.{arith}
use lib.Dec.{T, ltb→lt, eqb, eqb→eq}
use lib.Pow.{high, shr_mono}
use lib.Bits.{bit_xor, xor_shr, xor_zero_r, xor_lt, xor_add_and, and_mask}
use lib.ListN.{length, length-append}
use Rattle.binary.specs.Words.{ones}
use Rattle.binary.proofs.Xor.{two_cases, bit_lt, xor_back}
use Rattle.code.proofs.Syndromes.{syndrome_lt}
use Rattle.binary.proofs.Places.{le_or_lt}
use Rattle.patterns.proofs.Nearest.{error_syndrome, error_codeword}
use Rattle.table.proofs.Fours.{rest, leads, four, one, leaders, four-found, four_lt, four-syndrome, six_lead, four-ones}
use Rattle.candidates.specs.Candidates.{◌∈◌, Ascending, Candidate, Candidates, AtFour}
use Rattle.candidates.proofs.Ascending.{end_cases, ascending_end}

-- c, if it leads, before all of the list or after all of it
abbrev pub put : Bool → Bool → ℕ → List ℕ → List ℕ
put true true c cs = c ∷ cs
put true false c cs = cs ++ (c ∷ [])
put false before c cs = cs

abbrev pub is_set : ℕ → ℕ → Bool
is_set word i = eqb (word / 2 ^ i % 2) 1

abbrev pub arrange : ℕ → ℕ → ℕ → List ℕ
arrange word s zero = []
arrange word s (suc n) = put (leads s n) (is_set word n) (bit_xor word (four s n)) (arrange word s n)

-- ---- its members

put_here : (b d : Bool) (c : ℕ) (cs : List ℕ) → T b → c ∈ put b d c cs
put_here true true c cs t = Memᴰ.head refl
put_here true false c cs t = Memᴰ.append_right cs (Memᴰ.head refl)
put_here false d c cs t = absurd t

put-there : (b d : Bool) (c : ℕ) {x : ℕ} (cs : List ℕ) → x ∈ cs → x ∈ put b d c cs
put-there true true c cs m = Memᴰ.tail m
put-there true false c cs m = Memᴰ.append_left (c ∷ []) m
put-there false d c cs m = m

put-cases : (b d : Bool) (c : ℕ) {x : ℕ} (cs : List ℕ) → x ∈ put b d c cs → (T b × (x ≡ c)) ⊎ (x ∈ cs)
put-cases true true c cs m = ⊎_elim (λ e. inl (tt, e)) (λ n. inr n) (Memᴰ.cases_cons m)
put-cases true false c cs m = ⊎_elim (λ e. inl (tt, e)) (λ n. inr n) (end_cases cs m)
put-cases false d c cs m = inr m

pub put-length : (b d : Bool) (c : ℕ) (cs : List ℕ) → length (put b d c cs) ≡ one b + length cs
put-length true true c cs = omega arith
put-length true false c cs = omega (arith, length-append cs (c ∷ []))
put-length false d c cs = omega arith

-- the codeword that place i leads to
record Placed (word s n c i : ℕ) : Type 0 where
  place : i < n
  leading : T (leads s i)
  found : c ≡ bit_xor word (four s i)

module _ (word s : ℕ) where
  arrange_has : (n i : ℕ) → i < n → T (leads s i) → bit_xor word (four s i) ∈ arrange word s n
  arrange_has zero i h t = absurd (not-suc-le-zero h)
  arrange_has (suc n) i h t =
      ⊎_elim
      (λ e.
      Memᴰ.cast (ap (λ (j : ℕ). bit_xor word (four s j)) e)
      (put_here (leads s n) (is_set word n) (bit_xor word (four s n)) (arrange word s n) (subst (λ (j : ℕ). T (leads s j)) e t)))
      (λ g. put-there (leads s n) (is_set word n) (bit_xor word (four s n)) (arrange word s n) (arrange_has n i g t))
      (eq-or-lt_of_le (le_of_suc-le-suc h))

  arrange_placed : (n c : ℕ) → c ∈ arrange word s n → (i : ℕ) × Placed word s n c i
  arrange_placed zero c m = absurd (Memᴰ.not-nil m)
  arrange_placed (suc n) c m =
      ⊎_elim
      (λ p. (n, record { place = omega arith; leading = p.0; found = p.1 }))
      (λ q. let (i, r) = arrange_placed n c q in (i, record { place = omega (arith, r.place); leading = r.leading; found = r.found }))
      (put-cases (leads s n) (is_set word n) (bit_xor word (four s n)) (arrange word s n) m)

  arrange_length : (n : ℕ) → length (arrange word s n) ≡ leaders s n
  arrange_length zero = refl
  arrange_length (suc n) =
      put-length (leads s n) (is_set word n) (bit_xor word (four s n)) (arrange word s n)
      ∙ ap (λ (x : ℕ). one (leads s n) + x) (arrange_length n)

-- ---- its order

odd_flip : (q : ℕ) → q % 2 ≡ 1 → bit_xor q 1 < q
odd_flip q h = omega (arith, xor_add_and q 1, and_mask q 1)

even_flip : (q : ℕ) → q % 2 ≡ 0 → q < bit_xor q 1
even_flip q h = omega (arith, xor_add_and q 1, and_mask q 1)

high_less : (n a b : ℕ) → a / 2 ^ n < b / 2 ^ n → a < b
high_less n a b h = ⊎_elim (λ l. let f : ⊥ = omega (arith, shr_mono n l) in absurd f) (λ l. l) (le_or_lt b a)

-- two errors below 2 ^ (n + 1), the first with place n and the second without
module _ (word n low other : ℕ) (h : low < 2 ^ n) (g : other < 2 ^ n) where
  high_first : bit_xor word (2 ^ n + low) / 2 ^ n ≡ bit_xor (word / 2 ^ n) 1
  high_first =
      xor_shr word (2 ^ n + low) n
      ∙ ap (bit_xor (word / 2 ^ n)) (ap (λ (x : ℕ). (x + low) / 2 ^ n) (sym (one-mul (2 ^ n))) ∙ high 1 n h)

  high_other : bit_xor word other / 2 ^ n ≡ word / 2 ^ n
  high_other = xor_shr word other n ∙ ap (bit_xor (word / 2 ^ n)) (div-eq_of_lt g) ∙ xor_zero_r (word / 2 ^ n)

  flip_below : word / 2 ^ n % 2 ≡ 1 → bit_xor word (2 ^ n + low) < bit_xor word other
  flip_below o = high_less n _ _ (rw (high_first, high_other) (odd_flip (word / 2 ^ n) o))

  flip_above : word / 2 ^ n % 2 ≡ 0 → bit_xor word other < bit_xor word (2 ^ n + low)
  flip_above o = high_less n _ _ (rw (high_first, high_other) (even_flip (word / 2 ^ n) o))

put-ascending :
    (b d : Bool) (c : ℕ) (cs : List ℕ)
    → Ascending cs
    → (T b → T d → (x : ℕ) → x ∈ cs → c < x)
    → (T b → T (not d) → (x : ℕ) → x ∈ cs → x < c)
    → Ascending (put b d c cs)
put-ascending true true c cs a f g = (f tt tt, a)
put-ascending true false c cs a f g = ascending_end cs c a (g tt tt)
put-ascending false d c cs a f g = a

not-one : (x : ℕ) → x < 2 → T (not (eqb x 1)) → x ≡ 0
not-one = two_cases (λ x. T (not (eqb x 1)) → x ≡ 0) (λ t. refl) (λ t. absurd t)

module _ (word s : ℕ) where
  below_all : (n : ℕ) → T (leads s n) → T (is_set word n) → (c : ℕ) → c ∈ arrange word s n → bit_xor word (four s n) < c
  below_all n t o c m =
      let (i, p) = arrange_placed word s n c m in
      rw p.found
      (flip_below word n (rest s n) (four s i) (ltb→lt (rest s n) (2 ^ n) t) (four_lt s i n p.place p.leading) (eqb→eq (word / 2 ^ n % 2) 1 o))

  above_all : (n : ℕ) → T (leads s n) → T (not (is_set word n)) → (c : ℕ) → c ∈ arrange word s n → c < bit_xor word (four s n)
  above_all n t o c m =
      let (i, p) = arrange_placed word s n c m in
      rw p.found
      (flip_above word n (rest s n) (four s i) (ltb→lt (rest s n) (2 ^ n) t) (four_lt s i n p.place p.leading)
      (not-one (word / 2 ^ n % 2) (bit_lt (word / 2 ^ n)) o))

  arrange_ascending : (n : ℕ) → Ascending (arrange word s n)
  arrange_ascending zero = tt
  arrange_ascending (suc n) =
      put-ascending (leads s n) (is_set word n) (bit_xor word (four s n)) (arrange word s n) (arrange_ascending n) (below_all n) (above_all n)

-- ---- all candidates of a word at distance four

module _ (word s : ℕ) (a : AtFour word s) where
  pub at-four_lt : s < 2 ^ 12
  at-four_lt = rw a.syndrome (syndrome_lt word)

  each-candidate : (c : ℕ) → c ∈ arrange word s 24 → Candidate word c
  each-candidate c m =
      let (i, p) = arrange_placed word s 24 c m in
      let short = four_lt s i 24 p.place p.leading in
      let same = four-syndrome s i at-four_lt p.place p.leading ∙ a.syndrome in
      record {
        short = rw p.found (xor_lt 24 word (four s i) a.within short);
        codeword = rw p.found (error_codeword word (four s i) same);
        apart =
            ap (λ (x : ℕ). ones 24 (bit_xor word x)) p.found
            ∙ ap (ones 24) (xor_back word (four s i))
            ∙ four-ones s a.pattern at-four_lt a.rule a.four i p.place p.leading;
      }

  every-candidate : (c : ℕ) → Candidate word c → c ∈ arrange word s 24
  every-candidate c k =
      let (i, l) = four-found s (bit_xor word c) (xor_lt 24 word c a.within k.short) (error_syndrome word c k.codeword ∙ sym a.syndrome) k.apart in
      Memᴰ.cast (sym (xor_back word c) ∙ ap (bit_xor word) l.found) (arrange_has word s 24 i l.place l.leading)

  pub arrange_candidates : Candidates word (arrange word s 24)
  arrange_candidates = record {
    six = arrange_length word s 24 ∙ six_lead s a.pattern at-four_lt a.rule a.four;
    ascending = arrange_ascending word s 24;
    each = each-candidate;
    every = every-candidate;
  }
