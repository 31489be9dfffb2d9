-- `report::rows::put_row` meets its contract: the statement decides.
-- Assumes nothing.
use borrow.Author.Rules.{rules}
use Rattle.report.proofs.TableLaws.{row_refused, row_stated}
use Rattle.report.proofs.rows.put_row.Goals as goal

pub returns-in-Ok : goal.returns-in-Ok
returns-in-Ok c = rw (← c.book.view_is) (search (row_stated, rules))

pub returns-in_default : goal.returns-in_default
returns-in_default c = rw (← c.book.view_is) (search (row_refused, rules))
