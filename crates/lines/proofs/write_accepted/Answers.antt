-- How long the line is, by its numbers' widths.
use Rattle.std.proofs.Common.{rules}
use Rattle.lines.proofs.Lengths.{accepted-short}
use Rattle.lines.proofs.write_accepted.Goals as goal

pub returns-clause-follows_len_bound : goal.returns-clause-follows_len_bound
returns-clause-follows_len_bound c =
    accepted-short c.args.follows c.end_in-end.ensures.follows_len_bound c.args.message c.args.reserve (search rules) (search rules)
