-- `calendar::date::date_of` meets its contract: the year and the place of the day's month, and the day of the month.
-- Assumes nothing.
use Rattle.calendar.proofs.DateParts.{dated_by_month}
use borrow.Author.Rules.{rules}
use Rattle.calendar.proofs.date.date_of.Goals as goal

pub returns : goal.returns
returns c = search (dated_by_month, rules)
