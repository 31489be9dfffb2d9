-- `calendar::year::place_in_leap_year` meets its contract: each range is the days of one month of 2020, a leap year.
-- Assumes nothing.
use Rattle.calendar.proofs.YearDays.{place_at, place-december}
use borrow.Author.Rules.{rules}
use Rattle.calendar.proofs.year.place_in_leap_year.Goals as goal

pub returns-in-0-to-30 : goal.returns-in-0-to-30
returns-in-0-to-30 c = search (place_at, rules)

pub returns-in-31-to-59 : goal.returns-in-31-to-59
returns-in-31-to-59 c = search (place_at, rules)

pub returns-in-60-to-90 : goal.returns-in-60-to-90
returns-in-60-to-90 c = search (place_at, rules)

pub returns-in-91-to-120 : goal.returns-in-91-to-120
returns-in-91-to-120 c = search (place_at, rules)

pub returns-in-121-to-151 : goal.returns-in-121-to-151
returns-in-121-to-151 c = search (place_at, rules)

pub returns-in-152-to-181 : goal.returns-in-152-to-181
returns-in-152-to-181 c = search (place_at, rules)

pub returns-in-182-to-212 : goal.returns-in-182-to-212
returns-in-182-to-212 c = search (place_at, rules)

pub returns-in-213-to-243 : goal.returns-in-213-to-243
returns-in-213-to-243 c = search (place_at, rules)

pub returns-in-244-to-273 : goal.returns-in-244-to-273
returns-in-244-to-273 c = search (place_at, rules)

pub returns-in-274-to-304 : goal.returns-in-274-to-304
returns-in-274-to-304 c = search (place_at, rules)

pub returns-in-305-to-334 : goal.returns-in-305-to-334
returns-in-305-to-334 c = search (place_at, rules)

pub returns-in_default : goal.returns-in_default
returns-in_default c = search (place-december, rules)
