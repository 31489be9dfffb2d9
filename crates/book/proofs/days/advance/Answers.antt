-- `book::days::advance` meets its contract: one test is cause 17, and what is opened is the definition's number of days, day by day.
-- Assumes nothing.
use Rattle.book.proofs.Functions.DaysOpened.{outside-given, days-given}
use Rattle.book.proofs.days.advance.Goals as goal

pub returns-then-is_outside : goal.returns-then-is_outside
returns-then-is_outside c =
    outside-given c.args.words.now c.args.day.0 c.args.budget c.today_of-today.result.0 c.is_outside.result c.requires c.today_of-today.ensures
    c.is_outside.ensures c.if-is_outside.true

pub returns : goal.returns
returns c =
    days-given c.args.words.now c.args.day.0 c.args.budget c.today_of-today.result.0 c.is_outside.result c.requires c.today_of-today.ensures
    c.is_outside.ensures c.if-is_outside.false _ _ c.min-days.ensures c.open_days.ensures
