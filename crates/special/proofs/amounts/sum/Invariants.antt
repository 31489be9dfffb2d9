-- `special::amounts::sum` meets its contract. The loop's invariant: `total` is the sum of the amounts passed.
-- Assumes nothing.
use Rattle.special.proofs.Sums.{Summed}
use Rattle.special.proofs.amounts.sum.Given as goal

abbrev pub invariant-loop-amount : goal.invariant-loop-amount
invariant-loop-amount l = Summed l.list l.total l.amount-index
