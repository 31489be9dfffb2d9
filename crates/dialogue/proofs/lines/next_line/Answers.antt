-- `dialogue::lines::next_line` meets its contract: the first newline, where one more line is taken.
-- Assumes nothing.
use Rattle.dialogue.proofs.TurnLaws.{next_found}
use Rattle.std.proofs.Common.{rules}
use Rattle.dialogue.proofs.lines.next_line.Goals as goal

pub returns-then-goes_on : goal.returns-then-goes_on
returns-then-goes_on c = search (next_found, rules)
