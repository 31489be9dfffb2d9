-- Dates by year, month and day of the month, and the days that they are. Paper 01, 'Units and calendar': "Day 0 is 1 January 2020, the last
-- day 29,219 (31 December 2099)."
-- Assumes nothing.
use Rattle.std.specs.Prelude.{ℕ, ◌+◌, ◌-◌, ◌*◌, Bool, cond, ◌&&◌, leb, Option, Some, None}
use Rattle.calendar.specs.Civil.{last_day, length_in, first_day, year_of, place_of, month_of, day_of_month}
use Rattle.calendar.specs.declared.Day.{Day}
use Rattle.calendar.specs.declared.date.Date.{Date}

-- Whether there is such a date in 2020 to 2099: a month from 1 to 12, and a day from 1 to the month's length.
unfoldable pub is_date : ℕ → ℕ → ℕ → Bool
is_date y m d = leb 2020 y && leb y 2099 && (leb 1 m && leb m 12) && (leb 1 d && leb d (length_in y (m - 1)))

-- The number of the month of a year: January 2020 is month 0.
unfoldable pub month_number : ℕ → ℕ → ℕ
month_number y m = 12 * (y - 2020) + (m - 1)

-- The day of a date: the first day of its month, and the days of the month before it.
unfoldable pub day_of_date : ℕ → ℕ → ℕ → Option Day
day_of_date y m d = cond (is_date y m d) (Some (record { 0 = first_day (month_number y m) + (d - 1) })) None

-- The date of a day: its month's year and place there, and the day of the month.
unfoldable pub date_of : ℕ → Option Date
date_of d =
    cond (leb d last_day)
    (Some (record { year = year_of (month_of d); month = place_of (month_of d) + 1; day = day_of_month d }))
    None
