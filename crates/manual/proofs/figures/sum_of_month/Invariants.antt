-- `manual::figures::sum_of_month` meets its contract. The loop's invariant, `SoFar`: each figure passed is within its bound, so the sum does not
-- overflow, and with those left it makes the whole. Assumes nothing.
use Prim.Native.Nat.{◌≤◌}
use mathlib.Core.Path.{◌≡◌}
use lib.ListN.{length}
use Rattle.manual.proofs.Sums.{SoFar}
use Rattle.manual.proofs.figures.sum_of_month.Given as goal

abbrev pub invariant-loop-i : goal.invariant-loop-i
invariant-loop-i g l = (5 ≤ l.count) × (l.count ≤ 16) × (length (g.F.Figures.list l.figures) ≡ l.count) × SoFar (g.F.Figures.list l.figures) l.total l.i
