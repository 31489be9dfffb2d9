-- The civil calendar from 1 January 2020 to 31 December 2099, as paper 01, 'Units and calendar', numbers it: "Day 0 is 1 January 2020, the
-- last day 29,219 (31 December 2099). Month 0 is January 2020, the last 959."
-- Assumes nothing.
use Rattle.std.specs.Prelude.{ℕ, zero, suc, ◌+◌, ◌-◌, ◌/◌, ◌%◌, min, Bool, cond, not, ◌&&◌, ◌||◌, List, [], ◌∷◌, leb, ltb, eqb, get_or}

-- The last day, 31 December 2099.
abbrev pub last_day : ℕ
last_day = 29219

-- The number of months, the last of which is 959, December 2099.
abbrev pub months : ℕ
months = 960

-- The Gregorian rule: every fourth year is a leap year, a hundredth is not, a four-hundredth is.
unfoldable pub leap : ℕ → Bool
leap y = (eqb (y % 4) 0 && not (eqb (y % 100) 0)) || eqb (y % 400) 0

-- The lengths of January to December in a common year.
abbrev pub common_lengths : List ℕ
common_lengths = 31 ∷ 28 ∷ 31 ∷ 30 ∷ 31 ∷ 30 ∷ 31 ∷ 31 ∷ 30 ∷ 31 ∷ 30 ∷ 31 ∷ []

-- The length of a month of a year, January being 0: a leap year's February has a day more.
unfoldable pub length_in : ℕ → ℕ → ℕ
length_in y k = get_or common_lengths k 0 + cond (leap y && eqb k 1) 1 0

-- The year of a month, and its place in the year, January being 0.
abbrev pub year_of : ℕ → ℕ
year_of m = 2020 + m / 12

abbrev pub place_of : ℕ → ℕ
place_of m = m % 12

-- The length of a month.
unfoldable pub length_of : ℕ → ℕ
length_of m = length_in (year_of m) (place_of m)

-- A month's first day: the sum of the lengths of the months before it.
unfoldable pub first_day : ℕ → ℕ
first_day zero = 0
first_day (suc m) = first_day m + length_of m

-- The same for every number: where there is no such month, the day after the last, 29,220.
unfoldable pub first_day_of : ℕ → ℕ
first_day_of m = first_day (min m months)

-- The latest of the months 0 to n that has begun by day d.
unfoldable pub begun : ℕ → ℕ → ℕ
begun zero d = 0
begun (suc n) d = cond (leb (first_day (suc n)) d) (suc n) (begun n d)

-- Of n months from m on, the one that holds the day r days after m's first; the month behind them where none of them does.
unfoldable pub holding : ℕ → ℕ → ℕ → ℕ
holding zero m r = m
holding (suc n) m r = cond (ltb r (length_of m)) m (holding n (suc m) (r - length_of m))

-- The month that holds a day; it is the latest that has begun by then (`month_of-begun`). A day above 29,219 is in month 960, which is no
-- month of the calendar.
unfoldable pub month_of : ℕ → ℕ
month_of d = holding months 0 d

-- The day of the month, from 1.
unfoldable pub day_of_month : ℕ → ℕ
day_of_month d = d - first_day (month_of d) + 1

-- The same for every number: 0 where there is no such day.
unfoldable pub day_of_month_of : ℕ → ℕ
day_of_month_of d = cond (leb d last_day) (day_of_month d) 0

-- Whether a month is a September.
unfoldable pub is_september : ℕ → Bool
is_september m = eqb (place_of m) 8

-- Whether a day of the calendar lies in a September.
unfoldable pub in_september : ℕ → Bool
in_september d = leb d last_day && is_september (month_of d)

-- Paper 01, 'Annual run': "1 to 10 September". Whether a day of the calendar lies there.
unfoldable pub in_annual_days : ℕ → Bool
in_annual_days d = leb d last_day && (is_september (month_of d) && leb (day_of_month d) 10)

-- Paper 02, Ask 4: "in August or September" (002, section 6: "the last 2 months of the Guarantee Validity Period"). Whether a month is one of the
-- two, and whether a day of the calendar lies there.
unfoldable pub is_deletion_month : ℕ → Bool
is_deletion_month m = eqb (place_of m) 7 || eqb (place_of m) 8

unfoldable pub in_deletion_months : ℕ → Bool
in_deletion_months d = leb d last_day && is_deletion_month (month_of d)

-- Whether a day of the calendar is a 1 October.
unfoldable pub is_first_october : ℕ → Bool
is_first_october d = leb d last_day && (eqb (place_of (month_of d)) 9 && eqb (day_of_month d) 1)
