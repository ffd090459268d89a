-- The stored pattern of golay's syndrome, as a word and by its positions, is what the rule goes by.
-- Assumes nothing.
use Rattle.std.proofs.Common.{rules}
use Rattle.hard.proofs.Found.{syndrome-accepted, found}
use Rattle.hard.proofs.Calls.{finds_refused, finds_found}
use Rattle.hard.proofs.find.Goals as goal

pub returns-in_err-syndrome : goal.returns-in_err-syndrome
returns-in_err-syndrome c = search (rules, finds_refused)

pub returns : goal.returns
returns c = finds_found (found (syndrome-accepted c.in_ok-syndrome.ensures) c.entry-entry.ensures c.spread.ensures c.held.ensures)
