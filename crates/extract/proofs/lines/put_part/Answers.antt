-- `extract::lines::put_part` meets its contract: the settlement of the part and what stands behind it, or nothing.
-- Assumes nothing.
use Rattle.extract.proofs.PartLaws.{part_put}
use Rattle.extract.proofs.lines.put_part.Goals as goal

pub returns-in-Some : goal.returns-in-Some
returns-in-Some c = part_put _ _ _ _ c.own_part.ensures _ _ _ _ c.in-Some.is c.put_settlement.ensures c.put_behind.ensures
