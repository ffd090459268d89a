-- The sum over the columns is additive, as the syndrome is, and agrees with it at each position.
use mathlib.Core.Path.{◌≡◌, ap₂, ◌∙◌, sym}
use Prim.Native.Nat.{ℕ, zero, suc, ◌*◌, ◌/◌, ◌%◌, ◌^◌, ◌<◌}
use lib.Bits.{bit_xor, xor_shr, xor_mod}
use lib.ListN.{take, drop}
use Rattle.binary.specs.Words.{row_sum}
use Rattle.binary.proofs.Linear.{Additive, additive_after, additive_sum, row_sum-add, agree}
use Rattle.code.specs.Code.{words, syndrome_of}
use Rattle.code.proofs.Syndromes.{syndrome_rows, syndrome-add}
use Rattle.rows.proofs.syndrome_of.Goals as goal

-- the syndrome of the column whose lowest position is worth 2 ^ k; and of the last column and the j before it
abbrev part : ℕ → ℕ → ℕ
part k column = row_sum (take 4 (drop k syndrome_rows)) (column % 2 ^ 4)

abbrev parts : ℕ → ℕ → ℕ
parts zero word = part 0 word
parts (suc j) word = bit_xor (parts j word) (part (4 * suc j) (word / 2 ^ (4 * suc j)))

part-add : (k : ℕ) → Additive (part k)
part-add k = additive_after (row_sum (take 4 (drop k syndrome_rows))) (λ x. x % 2 ^ 4) (row_sum-add (take 4 (drop k syndrome_rows))) (λ a b. xor_mod a b 4)

parts_add : (j : ℕ) → Additive (parts j)
parts_add zero = part-add 0
parts_add (suc j) =
    additive_sum (parts j) (λ w. part (4 * suc j) (w / 2 ^ (4 * suc j))) (parts_add j)
    (additive_after (part (4 * suc j)) (λ w. w / 2 ^ (4 * suc j)) (part-add (4 * suc j)) (λ a b. xor_shr a b (4 * suc j)))

syndrome-parts : (word : ℕ) → word < 2 ^ 32 → syndrome_of (word % words) ≡ parts 5 word
unfolding syndrome_of
syndrome-parts =
    agree (λ word. syndrome_of (word % 2 ^ 24)) (parts 5)
    (additive_after syndrome_of (λ word. word % 2 ^ 24) syndrome-add (λ a b. xor_mod a b 24)) (parts_add 5) 32 tt

pub returns : goal.returns
returns c =
    ap₂ bit_xor
    (ap₂ bit_xor
    (ap₂ bit_xor
    (ap₂ bit_xor
    (ap₂ bit_xor c.column_syndrome.ensures c.column_syndrome-2.ensures)
    c.column_syndrome-3.ensures)
    c.column_syndrome-4.ensures)
    c.column_syndrome-5.ensures)
    c.column_syndrome-6.ensures
    ∙ sym (syndrome-parts c.args.word c.ranges.word.fits)
