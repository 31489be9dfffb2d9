-- "dates on the axis": the days that have one. So many that the dates don't crowd: days, weeks, or the first days of months.
-- Assumes nothing.
use Rattle.std.specs.Prelude.{ℕ, zero, suc, ◌+◌, ◌%◌, Bool, cond, ◌&&◌, List, [], ◌++◌, leb, ltb, eqb}
use Rattle.calendar.specs.Civil.{last_day, first_day_of}
use Rattle.words.specs.Text.{text}
use Rattle.printing.specs.Dates.{date_text}
use Rattle.chart.specs.declared.Scale.{Scale}
use Rattle.chart.specs.Scale.{days_shown, x_of}
use Rattle.chart.specs.Marks.{placed}

-- Up to 70 days the days are numbered from the first on, otherwise months from January 2020 on.
unfoldable pub by_days : Scale → Bool
by_days s = leb (days_shown s) 70

-- Every so manieth of them has a date, so that there are about ten at most: each day or each seventh; each month, every second, each quarter, half-year
-- or year, every second, fifth or tenth year.
unfoldable pub every : ℕ → ℕ
every n =
    cond (leb n 10) 1
    (cond (leb n 70) 7
    (cond (leb n 305) 1
    (cond (leb n 610) 2
    (cond (leb n 915) 3 (cond (leb n 1830) 6 (cond (leb n 3660) 12 (cond (leb n 7320) 24 (cond (leb n 18300) 60 120))))))))

-- The day with a number, or the first day of the month with it.
unfoldable pub numbered_day : Scale → ℕ → ℕ
numbered_day s i = cond (by_days s) (s.first.0 + i) (first_day_of i)

-- Whether a day is on the axis, and one of the calendar.
unfoldable pub on_axis : Scale → ℕ → Bool
on_axis s d = leb s.first.0 d && (ltb d (s.first.0 + days_shown s) && leb d last_day)

-- Whether a number's day has a date.
unfoldable pub has_date : Scale → ℕ → Bool
has_date s i = eqb (i % every (days_shown s)) 0 && on_axis s (numbered_day s i)

-- A stroke below the axis, and the date below that.
unfoldable pub tick : Scale → ℕ → List ℕ
tick s d =
    placed (text "<path d='M") (x_of s d)
    ++ placed (text " 420v7' stroke='#333333'/><text x='") (x_of s d)
    ++ text "' y='446' text-anchor='middle'>"
    ++ date_text d
    ++ text "</text>\n"

unfoldable pub tick_if : Scale → ℕ → List ℕ
tick_if s i = cond (has_date s i) (tick s (numbered_day s i)) []

-- Those of the numbers below n.
unfoldable pub ticks : ℕ → Scale → List ℕ
ticks zero s = []
ticks (suc n) s = ticks n s ++ tick_if s n
