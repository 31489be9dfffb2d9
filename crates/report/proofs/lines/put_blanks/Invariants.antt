-- `report::lines::put_blanks`: a blank is written in each turn.
-- Assumes nothing.
use Rattle.std.proofs.Common.{◌≡◌, replicate}
use Rattle.printing.specs.Written.{followed}
use Rattle.report.proofs.lines.put_blanks.Given as goal

abbrev pub invariant-loop : goal.invariant-loop
invariant-loop l = l.out ≡ followed l.initial.out (replicate l.counter 32)
