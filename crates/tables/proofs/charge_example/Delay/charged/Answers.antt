-- `tables::charge_example::Delay::charged` meets its contract: each product is that of the days and `day_charge`'s answer, and is small.
-- Assumes nothing.
use borrow.Author.Rules.{rules}
use Rattle.tables.proofs.Products.{days-fit, sum_fits}
use Rattle.tables.proofs.charge_example.Delay.charged.Goals as goal

pub overflow_mul-before : goal.overflow_mul-before
overflow_mul-before c = search (days-fit, rules)

pub overflow_mul-after : goal.overflow_mul-after
overflow_mul-after c = search (days-fit, rules)

pub overflow_add-result : goal.overflow_add-result
overflow_add-result c = search (sum_fits, rules)

pub returns : goal.returns
returns c = cc
