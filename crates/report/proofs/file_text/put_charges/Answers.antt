-- `report::file_text::put_charges` meets its contract: three lines.
-- Assumes nothing.
use Rattle.report.specs.FileText.{charge_lines}
use Rattle.report.proofs.FileLaws.{three_parts}
use Rattle.report.proofs.file_text.put_charges.Goals as goal

pub returns : goal.returns
unfolding charge_lines
returns c = three_parts _ _ _ _ _ _ _ c.put_count.ensures c.put_charge.ensures c.put_count-2.ensures
