-- `extract::lines::put_extracted` meets its contract: a batch's part, or the line as it is.
-- Assumes nothing.
use Rattle.extract.proofs.PartLaws.{line_filed}
use Rattle.extract.proofs.lines.put_extracted.Goals as goal

pub returns-in-Some : goal.returns-in-Some
returns-in-Some c = line_filed _ _ _ _ _ c.file_of.ensures _ _ _ c.in-Some.is c.put_filed.ensures
