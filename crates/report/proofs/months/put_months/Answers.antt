-- `report::months::put_months` meets its contract: each turn writes the line of the next month.
-- Assumes nothing.
use native.Mathlib.Omega.{arith}
use Rattle.report.proofs.FileLaws.{months_more}
use Rattle.report.proofs.months.put_months.Goals as goal

pub loop-passed-preserved : goal.loop-passed-preserved
loop-passed-preserved c =
    months_more _ _ _ _ _ c.loop-passed.passed c.months_before.result.0
    (omega (arith, c.months_before.ensures, c.months_between-months.ensures, c.loop-passed-test.true)) c.loop-passed.invariant c.put_recorded.ensures
