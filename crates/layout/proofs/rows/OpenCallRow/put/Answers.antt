-- `put` of an open call meets its contract: its words lead back to it.
-- Assumes nothing.
use borrow.Author.Rules.{rules}
use Rattle.layout.proofs.Backs.{call_back}
use Rattle.layout.proofs.rows.OpenCallRow.put.Goals as goal

pub returns : goal.returns
returns c = (c.put_words.ensures, search (call_back, rules))
