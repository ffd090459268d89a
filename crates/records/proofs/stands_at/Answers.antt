-- Each return is a case of what stands where the bytes that are left begin.
use Rattle.std.proofs.Common.{◌≡◌, Bool, true, false, cond, List, ℕ, drop, sym, ap, ◌∙◌, arith, rules}
use Rattle.records.specs.Records.{Record, Standing, ended, stopped, unfinished, standing, stands_at, in_piece, next_from}
use Rattle.records.proofs.Standing.{standing-none, standing-one, first-wrong, second-wrong, old-short, old-whole, new-short, new-whole}
use Rattle.records.proofs.stands_at.Goals as goal

module _ (bytes : List ℕ) (at : ℕ) {left : List ℕ} (same : left ≡ drop at bytes) (last : Bool) where
  stands : {s : Standing Record} → standing left ≡ s → next_from at (in_piece last s) ≡ next_from at (in_piece last (stands_at bytes at))
  stands e = ap (λ (s : Standing Record). next_from at (in_piece last s)) (sym e ∙ ap standing same)

  wrong : standing left ≡ stopped 9 → stopped 9 ≡ next_from at (in_piece last (stands_at bytes at))
  wrong e = told last ∙ stands e
    where
      told : (b : Bool) → ◌≡◌ {A = Standing ℕ} (stopped 9) (next_from at (in_piece b (stopped 9)))
      told true = search rules
      told false = search rules

  missing : standing left ≡ unfinished → cond last unfinished ended ≡ next_from at (in_piece last (stands_at bytes at))
  missing e = told last ∙ stands e
    where
      told : (b : Bool) → ◌≡◌ {A = Standing ℕ} (cond b unfinished ended) (next_from at (in_piece b unfinished))
      told true = search rules
      told false = search rules

pub returns-in-empty : goal.returns-in-empty
returns-in-empty c = stands c.args.bytes.now c.args.at c.rest-left.ensures c.args.last (standing-none c.rest-left.result.now (omega arith))

pub returns-in-len1 : goal.returns-in-len1
returns-in-len1 c = c.cut.ensures ∙ missing c.args.bytes.now c.args.at c.rest-left.ensures c.args.last (standing-one c.rest-left.result.now (omega arith))

pub returns-in-73 : goal.returns-in-73
returns-in-73 c =
    c.cut-in-73.ensures ∙ missing c.args.bytes.now c.args.at c.rest-left.ensures c.args.last (old-short c.rest-left.result.now (omega arith) (search rules) (search rules) (search rules))

pub returns-in-73-2 : goal.returns-in-73-2
returns-in-73-2 c =
    stands c.args.bytes.now c.args.at c.rest-left.ensures c.args.last (old-whole c.rest-left.result.now (omega arith) (search rules) (search rules) (search rules))

pub returns-in-73-3 : goal.returns-in-73-3
returns-in-73-3 c =
    c.cut-in-73-3.ensures ∙ missing c.args.bytes.now c.args.at c.rest-left.ensures c.args.last (new-short c.rest-left.result.now (omega arith) (search rules) (search rules) (search rules))

pub returns-in-73-4 : goal.returns-in-73-4
returns-in-73-4 c =
    stands c.args.bytes.now c.args.at c.rest-left.ensures c.args.last (new-whole c.rest-left.result.now (omega arith) (search rules) (search rules) (search rules))

pub returns-in_default : goal.returns-in_default
returns-in_default c =
    wrong c.args.bytes.now c.args.at c.rest-left.ensures c.args.last
    (second-wrong c.rest-left.result.now (omega arith) (search rules) (search rules) (search rules))

pub returns-in_default-2 : goal.returns-in_default-2
returns-in_default-2 c =
    wrong c.args.bytes.now c.args.at c.rest-left.ensures c.args.last (first-wrong c.rest-left.result.now (omega arith) (search rules))
