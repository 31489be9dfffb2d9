-- `report::positions::put_call` meets its contract: the amount, and the last free day behind it.
-- Assumes nothing.
use Rattle.report.specs.FileText.{call_line}
use Rattle.report.proofs.FileLaws.{four_parts}
use Rattle.report.proofs.positions.put_call.Goals as goal

pub returns : goal.returns
unfolding call_line
returns c = four_parts _ _ _ _ _ _ _ _ _ c.put_euros.ensures c.text.ensures c.put.ensures c.byte.ensures
