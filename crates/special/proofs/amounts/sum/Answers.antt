-- `special::amounts::sum` meets its contract. The loop's invariant: `total` is the sum of the amounts passed.
-- Assumes nothing.
use borrow.Author.Rules.{rules}
use Rattle.special.proofs.Sums.{sum-none, sum-adds, sum-again, sum-all}
use Rattle.special.proofs.amounts.sum.Goals as goal

pub loop-amount-init : goal.loop-amount-init
loop-amount-init c = sum-none c.args.list.now

pub overflow_add-total : goal.overflow_add-total
overflow_add-total c = search (sum-adds, rules)

pub loop-amount-preserved : goal.loop-amount-preserved
loop-amount-preserved c = search (sum-again, rules)

pub returns : goal.returns
returns c = search (sum-all, rules)
