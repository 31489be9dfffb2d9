-- `report::months::put_months`: the lines of the months that were passed are written.
-- Assumes nothing.
use Rattle.std.proofs.Common.{◌≡◌}
use Rattle.file.specs.Totals.{total_at}
use Rattle.printing.specs.Written.{followed}
use Rattle.report.specs.FileText.{month_lines}
use Rattle.report.proofs.months.put_months.Given as goal

abbrev pub invariant-loop-passed : goal.invariant-loop-passed
invariant-loop-passed l = l.out ≡ followed l.initial.out (month_lines (total_at l.file.totals) l.fn.first.0 l.passed)
