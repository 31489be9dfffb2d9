-- `tables::charge_example::per_mille` meets its contract: the charge of 10^8 times the shortfall is that number itself, or 0 at 0.
-- Assumes nothing.
use borrow.Author.Rules.{rules}
use Rattle.tables.proofs.Products.{per-mille-exact}
use Rattle.tables.proofs.charge_example.per_mille.Goals as goal

pub returns : goal.returns
returns c = search (per-mille-exact, rules)
