-- A number of 32 bits has at most ten digits.
use Rattle.std.proofs.Common.{rules}
use Rattle.sheet.proofs.Lines.{count-short}
use Rattle.sheet.proofs.write_count.Goals as goal

pub returns-clause-line_feed_in_bounds : goal.returns-clause-line_feed_in_bounds
returns-clause-line_feed_in_bounds c = count-short c.args.word.now c.args.n (search rules)
