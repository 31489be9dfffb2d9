-- `special::rates::best_of` meets its contract. The loop's invariant: `best` holds the three largest of the usable rates from `i` on.
-- Assumes nothing.
use lib.ListN.{drop}
use Rattle.special.specs.Ratio.{usable}
use Rattle.special.specs.Best.{BestOf}
use Rattle.special.proofs.rates.best_of.Given as goal

abbrev pub invariant-loop-i : goal.invariant-loop-i
invariant-loop-i l = BestOf (usable (drop l.i l.rates) (drop l.i l.marks)) l.best
