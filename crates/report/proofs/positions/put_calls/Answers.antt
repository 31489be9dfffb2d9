-- `report::positions::put_calls` meets its contract: each turn takes the first of the calls that are left.
-- Assumes nothing.
use Rattle.printing.specs.WrittenLaws.{followed_part, followed_all}
use Rattle.report.proofs.FileLaws.{call_first, calls_done}
use Rattle.report.proofs.positions.put_calls.Goals as goal

pub loop-call-preserved : goal.loop-call-preserved
loop-call-preserved c =
    followed_part _ _ _ _ _ _ c.loop-call.invariant (call_first _ _ _ c.loop-call-test.true) c.put_call.ensures

pub returns : goal.returns
returns c = followed_all _ _ _ c.loop-call.invariant (calls_done _ _ c.loop-call-test.false)
