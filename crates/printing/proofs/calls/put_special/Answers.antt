-- `printing::calls::put_special` meets its contract: the name and then the seven lists.
-- Assumes nothing.
use Rattle.printing.specs.WrittenLaws.{joined_one}
use Rattle.printing.proofs.calls.put_special.Goals as goal

pub returns : goal.returns
returns c = joined_one _ _ _ _ _ c.text.ensures (rw c.in_turn.ensures at c.put_lists.ensures)
