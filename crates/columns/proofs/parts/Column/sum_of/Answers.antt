-- Each arm is the column's sum for a parity and a character.
use Rattle.std.proofs.Common.{rules, ◌≡◌, lit<}
use Rattle.signed.proofs.Locals.{sum_reads, diff_reads}
use Rattle.columns.proofs.Summing.{eight}
use Rattle.columns.proofs.parts.Column.sum_of.Goals as goal

pub returns-in-0 : goal.returns-in-0
returns-in-0 c xs i C =
    let t = c.args.self in
    rw (sum_reads t.upper.narrow_sum t.lower.narrow_sum (lit< tt)) ((eight i c.args.n C).even_0 c.in-0.is)

pub returns-in-1 : goal.returns-in-1
returns-in-1 c xs i C =
    let t = c.args.self in
    rw (diff_reads t.upper.narrow_sum t.lower.narrow_sum (lit< tt)) ((eight i c.args.n C).even_1 c.in-1.is)

pub returns-in-2 : goal.returns-in-2
returns-in-2 c xs i C =
    let t = c.args.self in
    rw (sum_reads t.upper.narrow_difference t.lower.narrow_difference (lit< tt)) ((eight i c.args.n C).even_w c.in-2.is)

pub returns-in-3 : goal.returns-in-3
returns-in-3 c xs i C =
    let t = c.args.self in
    rw (diff_reads t.upper.narrow_difference t.lower.narrow_difference (lit< tt)) ((eight i c.args.n C).even_v c.in-3.is)

pub returns-in-4 : goal.returns-in-4
returns-in-4 c xs i C =
    let t = c.args.self in
    rw (diff_reads t.upper.narrow_difference t.lower.narrow_sum (lit< tt)) ((eight i c.args.n C).odd_0 c.in-4.is)

pub returns-in-5 : goal.returns-in-5
returns-in-5 c xs i C =
    let t = c.args.self in
    rw (sum_reads t.upper.narrow_difference t.lower.narrow_sum (lit< tt)) ((eight i c.args.n C).odd_1 c.in-5.is)

pub returns-in-6 : goal.returns-in-6
returns-in-6 c xs i C =
    let t = c.args.self in
    rw (diff_reads t.upper.narrow_sum t.lower.narrow_difference (lit< tt)) ((eight i c.args.n C).odd-w c.in-6.is)

pub returns-in_default : goal.returns-in_default
returns-in_default c xs i C =
    let t = c.args.self in
    let e : c.args.n ≡ 7 = search rules in
    rw (sum_reads t.upper.narrow_sum t.lower.narrow_difference (lit< tt)) ((eight i c.args.n C).odd-v e)
