-- `report::positions::put_positions`: the lines of the positions before this one are written.
-- Assumes nothing.
use Rattle.std.proofs.Common.{◌≡◌}
use Rattle.printing.specs.Written.{followed}
use Rattle.report.specs.FileText.{position_lines}
use Rattle.report.proofs.positions.put_positions.Given as goal

abbrev pub invariant-loop-k : goal.invariant-loop-k
invariant-loop-k l = l.out ≡ followed l.initial.out (position_lines l.k l.slots)
