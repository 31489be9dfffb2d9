-- `dialogue::said::Turn::put_added` meets its contract: the mark and the line are put one after the other, and so are what is said and the table.
-- Assumes nothing.
use Rattle.dialogue.proofs.LineLaws.{added}
use Rattle.std.proofs.Common.{rules}
use Rattle.dialogue.proofs.said.Turn.put_added.Goals as goal

pub returns : goal.returns
returns c = search (added, rules)
