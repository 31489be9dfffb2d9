-- `dialogue::asks::ask` meets its contract: the request of the text behind a byte order mark, held back.
-- Assumes nothing.
use Rattle.dialogue.proofs.AskLaws.{line_asked}
use Rattle.std.proofs.Common.{rules}
use Rattle.dialogue.proofs.asks.ask.Goals as goal

pub returns : goal.returns
returns c = search (line_asked, rules)
