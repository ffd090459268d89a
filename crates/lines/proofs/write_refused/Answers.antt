-- How long the line is, by its number's width.
use Rattle.std.proofs.Common.{rules}
use Rattle.lines.proofs.Lengths.{refused-short}
use Rattle.lines.proofs.write_refused.Goals as goal

pub returns-clause-follows_len_bound : goal.returns-clause-follows_len_bound
returns-clause-follows_len_bound c = refused-short c.args.follows c.end_in-end.ensures.follows_len_bound c.args.number (search rules)
