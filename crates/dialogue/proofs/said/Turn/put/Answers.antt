-- `dialogue::said::Turn::put` meets its contract: whether the line is kept and ends the first stretch is tested, and what it adds is put.
-- Assumes nothing.
use Rattle.dialogue.proofs.LineLaws.{turned}
use Rattle.std.proofs.Common.{rules}
use Rattle.dialogue.proofs.said.Turn.put.Goals as goal

pub returns : goal.returns
returns c = search (turned, rules)
