-- `report::positions::put_calls`: the lines of the calls that are left, written behind what is there, give those of all.
-- Assumes nothing.
use Rattle.std.proofs.Common.{◌≡◌, drop}
use Rattle.printing.specs.Written.{followed}
use Rattle.report.specs.FileText.{call_lines}
use Rattle.report.proofs.positions.put_calls.Given as goal

abbrev pub invariant-loop-call : goal.invariant-loop-call
invariant-loop-call l = followed l.out (call_lines (drop l.call-index l.calls)) ≡ followed l.initial.out (call_lines l.calls)
