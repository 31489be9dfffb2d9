-- `answering::calls::begin` meets its contract: a fresh book is begun on a day of the calendar, and past it nothing is written.
-- Assumes nothing.
use Rattle.std.proofs.Common.{rules}
use Rattle.answering.proofs.CallLaws.{begun_done, begun_refused}
use Rattle.answering.proofs.calls.begin.Goals as goal

pub returns-then-day-gt-LAST_DAY : goal.returns-then-day-gt-LAST_DAY
returns-then-day-gt-LAST_DAY c = search (begun_refused, rules)

pub returns : goal.returns
returns c = search (begun_done, rules)
