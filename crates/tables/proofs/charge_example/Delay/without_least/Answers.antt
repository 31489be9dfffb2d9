-- `tables::charge_example::Delay::without_least` meets its contract: each product is that of the days and of a shortfall, and is small.
-- Assumes nothing.
use borrow.Author.Rules.{rules}
use Rattle.tables.proofs.Products.{shortfall-fits, shortfalls-fit}
use Rattle.tables.proofs.charge_example.Delay.without_least.Goals as goal

pub overflow_mul-result : goal.overflow_mul-result
overflow_mul-result c = search (shortfall-fits, rules)

pub overflow_mul-result-2 : goal.overflow_mul-result-2
overflow_mul-result-2 c = search (shortfall-fits, rules)

pub overflow_add-result : goal.overflow_add-result
overflow_add-result c = search (shortfalls-fit, rules)

pub returns : goal.returns
returns c = cc
