-- The quick decoder is another than the soft one (9.6): one strong confidence against 23 weak ones, which the soft decoder refuses as tied,
-- it answers with 0, since the signs lie one position from that codeword.
-- Assumes nothing.
use mathlib.Core.Path.{◌≡◌, refl, sym, ap}
use Prim.Native.Nat.{ℕ}
use lib.Dec.{lit<, lit≤}
use lib.ListN.{get_or}
use Rattle.binary.specs.Words.{ones}
use Rattle.code.specs.Code.{syndrome_of}
use Rattle.code.proofs.Syndromes.{syndrome_lt}
use Rattle.golay.specs.Answers.{Answer, accepted}
use Rattle.table.proofs.Table.{table}
use Rattle.table.proofs.Entries.{table-pattern}
use Rattle.patterns.proofs.Nearest.{pattern-itself}
use Rattle.hard.specs.Calls.{correct_rule, Corrects}
use Rattle.reading.specs.Cases.{one_against}
use Rattle.signs.specs.Signs.{marked}
use Rattle.signs.specs.Fillings.{zeros}
use Rattle.decision.proofs.Deciding.{corrected_decides}
use Rattle.quick.specs.Quick.{QuickRule}
use Rattle.quick.proofs.Rules.{quick-signs, quick-once}

-- position 1 alone is the pattern of its syndrome
one_error : Corrects 0x800000 (accepted (record { codeword = 0; distance = 1 }))
unfolding correct_rule ones
one_error =
    let s = syndrome_of 0x800000 in
    let rule = table-pattern s (syndrome_lt 0x800000) in
    let e = pattern-itself 0x800000 (get_or table s 0) (lit< tt) (lit≤ tt) rule in
    record { pattern = get_or table s 0; rule = rule; answered = sym (ap (correct_rule 0x800000) e) }

pub one_against-answered : (a : Answer ℕ) → QuickRule one_against a → a ≡ accepted 0
unfolding marked zeros
one_against-answered a r = quick-once one_against a (accepted 0) r (quick-signs one_against refl refl (accepted 0) refl (corrected_decides one_error))
