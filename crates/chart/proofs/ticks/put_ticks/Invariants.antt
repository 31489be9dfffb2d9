-- `chart::ticks::put_ticks`: the dates of the numbers before this one are written.
-- Assumes nothing.
use Rattle.std.proofs.Common.{◌≡◌}
use Rattle.printing.specs.Written.{followed}
use Rattle.chart.specs.Ticks.{ticks}
use Rattle.chart.proofs.ticks.put_ticks.Given as goal

abbrev pub invariant-loop-number : goal.invariant-loop-number
invariant-loop-number l = l.out ≡ followed l.initial.out (ticks l.number l.scale)
