-- `tables::special_example::unrounded_guarantee` meets its contract: the guarantee of the known sums is computed.
-- Assumes nothing.
use borrow.Author.Rules.{rules}
use Rattle.tables.proofs.Examples.{guarantee-known}
use Rattle.tables.proofs.special_example.unrounded_guarantee.Goals as goal

pub returns : goal.returns
returns c = search (guarantee-known, rules)
