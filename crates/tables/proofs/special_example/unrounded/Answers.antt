-- `tables::special_example::unrounded` meets its contract: the products are below 2^48.
-- Assumes nothing.
use borrow.Author.Rules.{rules}
use Rattle.tables.proofs.Products.{rate-fits, rates-fit, rounded-fits}
use Rattle.tables.proofs.special_example.unrounded.Goals as goal

pub overflow_mul-result : goal.overflow_mul-result
overflow_mul-result c = search (rate-fits, rules)

pub overflow_mul-result-2 : goal.overflow_mul-result-2
overflow_mul-result-2 c = search (rate-fits, rules)

pub overflow_add-result : goal.overflow_add-result
overflow_add-result c = search (rates-fit, rules)

pub overflow_add-result-2 : goal.overflow_add-result-2
overflow_add-result-2 c = search (rounded-fits, rules)
