-- The six characters are the definition's.
use Rattle.std.proofs.Common.{[], ◌∷◌, ◌/◌, ◌%◌, ◌<◌, arith, refl}
use Rattle.code.specs.Characters.{fourth, fifth, sixth}
use Rattle.classes.specs.Classes.{characters_of}
use Rattle.classes.proofs.Characters.{Small, small_at, fourth_small, fifth_small, sixth_small}
use Rattle.columns.proofs.characters.Goals as goal

pub returns-clause-result_value : goal.returns-clause-result_value
unfolding characters_of
returns-clause-result_value c = refl

pub returns-clause-by_index : goal.returns-clause-by_index
returns-clause-by_index c =
    let k = c.args.k in
    let a = k / 16 % 4 in
    let b = k / 4 % 4 in
    let c = k % 4 in
    let ha : a < 4 = omega arith in
    let hb : b < 4 = omega arith in
    let hc : c < 4 = omega arith in
    let small : Small (a ∷ b ∷ c ∷ fourth a b c ∷ fifth a b c ∷ sixth a b c ∷ []) =
    (ha, (hb, (hc, (fourth_small a b c ha hb hc, (fifth_small a b c ha hb hc, (sixth_small a b c ha hb hc, tt)))))) in
    small_at (a ∷ b ∷ c ∷ fourth a b c ∷ fifth a b c ∷ sixth a b c ∷ []) small
