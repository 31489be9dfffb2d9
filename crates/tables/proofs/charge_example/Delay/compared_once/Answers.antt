-- `tables::charge_example::Delay::compared_once` meets its contract: the least charge of a day is 100,000,000 mills, and the larger of the two
-- is taken.
-- Assumes nothing.
use borrow.Author.Rules.{rules}
use mathlib.Core.Path.{◌∙◌}
use Rattle.tables.proofs.Products.{least_fits, larger}
use Rattle.tables.proofs.charge_example.Delay.compared_once.Goals as goal

pub overflow_mul-self : goal.overflow_mul-self
overflow_mul-self c = least_fits _ _ _ (search rules) (search rules) c.day_charge.ensures

pub returns : goal.returns
returns c = c.max.ensures ∙ larger _ _ _ _ c.day_charge.ensures c.without_least-sum.ensures
