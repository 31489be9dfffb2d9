-- `book::settlements::put_settled` meets its contract, by the case of the answer: a kept total writes its month, a call besides itself.
-- Assumes nothing.
use borrow.Author.Rules.{rules}
use Rattle.book.proofs.Functions.SettlementsPut.{puts-covered, puts-recorded}
use Rattle.book.proofs.settlements.put_settled.Goals as goal

pub returns-in-Covered : goal.returns-in-Covered
returns-in-Covered c = puts-covered _ _ _ (search rules) (search rules) _ _ _ _ c.in-Covered.is (search rules) (rw c.place-at.ensures at c.put_month.ensures)

pub returns-in-Recorded : goal.returns-in-Recorded
returns-in-Recorded c = puts-recorded _ _ _ (search rules) (search rules) _ _ _ _ c.in-Recorded.is (search rules) (rw c.place-at.ensures at c.put_month-in-Recorded.ensures)
