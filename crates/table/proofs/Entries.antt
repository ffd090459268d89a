-- Rule 15.2: each entry of the table is its syndrome's pattern (5.2), by two computed tests over all of it: each entry has its place as its
-- syndrome and at most four ones; and no word of at most four ones has a key below that of its syndrome's entry. A word with more ones has a
-- larger key in any case.
-- Assumes nothing.
use mathlib.Core.Path.{◌≡◌, refl, sym, ap, ◌∙◌, subst}
use mathlib.Core.Logic.{⊎_elim}
use mathlib.Core.Bool.{Bool, ◌&&◌}
use mathlib.Core.List.{map}
use Prim.Native.Nat.{ℕ, ◌+◌, ◌*◌, ◌^◌, ◌≤◌, ◌<◌}
use native.Mathlib.Nat.{zero-add}
use native.Mathlib.Omega.{arith}
use lib.Dec.{T, leb, leb→le, ltb, ltb→lt, eqb, eqb→eq}
use lib.ListN.{get_or, get_or-map}
use Rattle.binary.specs.Words.{ones, row_sum}
use Rattle.binary.proofs.Tests.{and_left, and_right, every, at}
use Rattle.binary.proofs.Places.{le_or_lt}
use Rattle.code.specs.Code.{words, syndrome_of}
use Rattle.code.proofs.Syndromes.{syndrome_rows, syndrome_rows_lem}
use Rattle.patterns.specs.Patterns.{IsPattern, ArePatterns}
use Rattle.patterns.proofs.Patterns.{pattern_unique}
use Rattle.table.proofs.Table.{table}
use Rattle.table.proofs.Lookup.{Tree, build, find, find_build}
use Rattle.table.proofs.Scan.{key_of, scan, scanned}

abbrev key : ℕ → ℕ
key e = key_of words 24 e

entry : ℕ → ℕ → Bool
entry s x = eqb (row_sum syndrome_rows x) s && ltb x words && leb (ones 24 x) 4

entries : T (every entry 0 table)
unfolding entry table ones
entries = tt

keys : Tree
unfolding table
keys = build 12 (map key table)

at_most : ℕ → ℕ → Bool
at_most s k = leb (find keys s) k

least : T (scan at_most words syndrome_rows 4 0 0 1)
unfolding at_most keys ones
least = tt

key_at : (s : ℕ) → s < 2 ^ 12 → find keys s ≡ key (get_or table s 0)
unfolding keys ones
key_at s h = find_build 12 (map key table) s h ∙ get_or-map key table s 0

-- ---- what the tests say of one entry x and any word e of its syndrome, with their numbers of ones p and q

no_fewer : (p x q e : ℕ) → x < words → e < words → x + p * words ≤ e + q * words → p ≤ q
no_fewer p x q e hx he l = omega arith

no_smaller : (p x q e : ℕ) → x + p * words ≤ e + q * words → q ≡ p → x ≤ e
no_smaller p x q e l o = omega arith

more : (p x q e : ℕ) → x < words → p ≤ 4 → 4 < q → x + p * words ≤ e + q * words
more p x q e hx hp hq = omega arith

module _ (s : ℕ) (h : s < 2 ^ 12) where
  abbrev x : ℕ
  x = get_or table s 0

  tests : (row_sum syndrome_rows x ≡ s) × (x < words) × (ones 24 x ≤ 4)
  unfolding entry table
  tests =
      let t = at entry table entries s h in
      let g = and_left (eqb (row_sum syndrome_rows x) s && ltb x words) (leb (ones 24 x) 4) t in (
        eqb→eq (row_sum syndrome_rows x) s (and_left (eqb (row_sum syndrome_rows x) s) (ltb x words) g),
        ltb→lt x words (and_right (eqb (row_sum syndrome_rows x) s) (ltb x words) g),
        leb→le (ones 24 x) 4 (and_right (eqb (row_sum syndrome_rows x) s && ltb x words) (leb (ones 24 x) 4) t),
      )

  light : (e : ℕ) → e < words → syndrome_of e ≡ s → ones 24 e ≤ 4 → key x ≤ key e
  unfolding at_most
  light e g z o =
      subst (λ (k : ℕ). k ≤ key e) (ap (find keys) (sym (syndrome_rows_lem e g) ∙ z) ∙ key_at s h)
      (leb→le (find keys (row_sum syndrome_rows e)) (key e) (scanned at_most words syndrome_rows 4 least e g o))

  key_least : (e : ℕ) → e < words → syndrome_of e ≡ s → key x ≤ key e
  key_least e g z =
      ⊎_elim (light e g z) (more (ones 24 x) x (ones 24 e) e tests.1 tests.2) (le_or_lt (ones 24 e) 4)

  pub table-pattern : IsPattern s (get_or table s 0)
  table-pattern = record {
    word = tests.1;
    syndrome = syndrome_rows_lem x tests.1 ∙ tests.0;
    fewest = λ e g z. no_fewer (ones 24 x) x (ones 24 e) e tests.1 g (key_least e g z);
    smallest = λ e g z. no_smaller (ones 24 x) x (ones 24 e) e (key_least e g z);
  }

pub table_patterns : ArePatterns 0 4096 table
unfolding table
table_patterns = record { size = refl; each = λ s h. rw zero-add (table-pattern s h) }

-- Rule 5.3: no pattern has more than four ones
pub pattern-ones : {s p : ℕ} → s < 2 ^ 12 → IsPattern s p → ones 24 p ≤ 4
pattern-ones {s} h r = rw (pattern_unique r (table-pattern s h)) (tests s h).2
