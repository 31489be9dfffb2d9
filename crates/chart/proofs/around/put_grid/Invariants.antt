-- `chart::around::put_grid`: the lines below this one are written.
-- Assumes nothing.
use Rattle.std.proofs.Common.{◌≡◌}
use Rattle.printing.specs.Written.{followed}
use Rattle.chart.specs.Picture.{grid}
use Rattle.chart.proofs.around.put_grid.Given as goal

abbrev pub invariant-loop-quarters : goal.invariant-loop-quarters
invariant-loop-quarters l = l.out ≡ followed l.initial.out (grid l.quarters l.scale)
