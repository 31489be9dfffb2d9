-- `manual::figures::sum_of_figures` meets its contract. The loop's invariant: the figures asked so far stand in the list. Assumes nothing.
use Prim.Native.Nat.{◌≤◌}
use mathlib.Core.Path.{◌≡◌}
use lib.ListN.{length}
use Rattle.manual.proofs.Listed.{Listed}
use Rattle.manual.proofs.figures.sum_of_figures.Given as goal

abbrev pub invariant-loop-at : goal.invariant-loop-at
invariant-loop-at g l = (l.count ≤ 16) × (length l.listed ≡ 16) × Listed g.figures l.listed l.at
