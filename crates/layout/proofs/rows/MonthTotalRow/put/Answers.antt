-- `put` of a month's total meets its contract: its words lead back to it.
-- Assumes nothing.
use borrow.Author.Rules.{rules}
use Rattle.layout.proofs.Backs.{total-are, total-back}
use Rattle.layout.proofs.rows.MonthTotalRow.put.Goals as goal

pub returns : goal.returns
returns c = (total-are _ _ _ _ _ _ _ _ c.put_words.ensures c.flag_word.ensures c.zigzag.ensures (search rules), search (total-back, rules))
