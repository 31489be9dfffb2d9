-- `extract::figures::put_settlement` meets its contract: the words up to the month, and the figures of the part.
-- Assumes nothing.
use Rattle.extract.proofs.FigureLaws.{settlement_put}
use Rattle.extract.proofs.figures.put_settlement.Goals as goal

pub returns : goal.returns
returns c = settlement_put _ _ _ _ _ _ _ _ c.month.ensures c.part_at.ensures c.words.ensures c.put_figures.ensures
