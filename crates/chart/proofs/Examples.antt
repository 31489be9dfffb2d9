-- Places and texts by hand: a year's axis of 2021, whose first day is 366, and 350,000.00 as the largest amount.
-- Assumes nothing.
use mathlib.Core.Path.{◌≡◌, refl, sym, ap}
use Rattle.std.proofs.Common.{lit≤, lit<}
use Rattle.std.specs.Prelude.{ℕ, ◌*◌, ◌^◌, ◌≤◌, ◌<◌, true, false, [], ◌++◌, Some, None}
use Rattle.chart.proofs.Rounding.{power_is}
use Rattle.words.specs.Text.{text}
use Rattle.printing.specs.Decimals.{numeral, decimal}
use Rattle.printing.specs.Columns.{digits, fixed}
use Rattle.printing.specs.Dates.{dated_text, date_text}
use Rattle.calendar.specs.DateLaws.{date_of-day_of_date, october-2021}
use Rattle.chart.specs.declared.Scale.{Scale}
use Rattle.chart.specs.Scale.{days_shown, x_after, x_of, x_end, most_drawn, round_up, top_of, y_of}
use Rattle.chart.specs.Marks.{placed}
use Rattle.chart.specs.Ticks.{by_days, every, on_axis}
use Rattle.chart.specs.Picture.{seen, area, shade, step, steps_ended, last_stroke, call_mark}

abbrev year : Scale
year = record { first = record { 0 = 366 }; days = 365; most = 35000000 }

-- The axis begins at 130.0 and ends at 1090.0; the second day begins 960 / 365 = 2.63 units from there; a day before the axis is at its beginning and one
-- behind it at its end.
pub days :
    (x_of year 366 ≡ 1300)
    × (x_of year 367 ≡ 1326)
    × (x_end year 366 ≡ 1326)
    × (x_end year 730 ≡ 10900)
    × (x_of year 0 ≡ 1300)
    × (x_of year 4000 ≡ 10900)
unfolding x_of x_end x_after days_shown
days = (refl, refl, refl, refl, refl, refl)

-- An axis of no days has one.
pub no_days : x_end (record { first = record { 0 = 366 }; days = 0; most = 0 }) 366 ≡ 10900
unfolding x_end x_after days_shown
no_days = refl

top-at : (k most : ℕ) → 10 ^ k ≤ most_drawn most → most_drawn most < 10 * 10 ^ k → top_of most ≡ round_up (10 ^ k) (most_drawn most)
unfolding top_of
top-at k most l h = ap (λ (u : ℕ). round_up u (most_drawn most)) (sym (power_is k (most_drawn most) l h))

-- 350,000.00 is drawn up to 500,000.00; 500,000.00 itself too, a cent more up to a million; nothing up to 1.00, and the largest word up to 2 * 10^13.
top-of-year : top_of 35000000 ≡ 50000000
unfolding most_drawn round_up
top-of-year = top-at 7 35000000 (lit≤ tt) (lit< tt)

pub tops :
    (top_of 35000000 ≡ 50000000)
    × (top_of 50000000 ≡ 50000000)
    × (top_of 50000001 ≡ 100000000)
    × (top_of 10000001 ≡ 20000000)
    × (top_of 0 ≡ 100)
    × (top_of 18446744073709551615 ≡ 2000000000000000)
unfolding most_drawn round_up
tops = (
  top-of-year,
  top-at 7 50000000 (lit≤ tt) (lit< tt),
  top-at 7 50000001 (lit≤ tt) (lit< tt),
  top-at 7 10000001 (lit≤ tt) (lit< tt),
  top-at 2 0 (lit≤ tt) (lit< tt),
  top-at 15 18446744073709551615 (lit≤ tt) (lit< tt),
)

-- Nothing is on the floor at 420.0, 350,000.00 seven tenths up, 500,000.00 and more at the top at 60.0.
pub heights : (y_of year 0 ≡ 4200) × (y_of year 35000000 ≡ 1680) × (y_of year 50000000 ≡ 600) × (y_of year 90000000 ≡ 600) × (y_of year 2000000 ≡ 4056)
unfolding y_of
heights = rw top-of-year (refl, refl, refl, refl, refl)

-- A year has a date on the first day of every second month, 30 days one a week, 20 years one every second year.
pub dates : (by_days year ≡ false) × (every 365 ≡ 2) × (every 30 ≡ 7) × (every 7305 ≡ 24) × (on_axis year 730 ≡ true) × (on_axis year 731 ≡ false)
unfolding by_days every on_axis days_shown
dates = (refl, refl, refl, refl, refl, refl)

-- The first day's amount, the same on the next day, and another on the day behind that; then the end of the year.
pub steps :
    (step year 366 None 2000000 ≡ text "M130.0 405.6")
    × (step year 367 (Some 2000000) 2000000 ≡ [])
    × (step year 368 (Some 2000000) 35000000 ≡ text "H135.2V168.0")
    × (steps_ended year 730 ≡ text "H1090.0'/>\n")
unfolding step steps_ended placed x_of x_end x_after days_shown y_of fixed digits decimal numeral
steps = rw top-of-year (refl, refl, refl, refl)

-- Ten days shaded; a day before the axis is not.
pub shades :
    (shade year 377 386 ≡ text "<rect x='158.9' y='60' width='26.3' height='360' fill='#000000' fill-opacity='0.13'/>\n")
    × (shade year 300 365 ≡ [])
unfolding shade seen area placed x_of x_end x_after days_shown fixed digits decimal numeral
shades = (refl, refl)

-- A call whose last free day is behind the axis has no stroke there.
pub open_call : last_stroke year 731 ≡ []
unfolding last_stroke days_shown
open_call = refl

-- A call of 20,000.00 on 21 September 2021, day 629, free until 1 October, day 639.
pub call : call_mark year 629 2000000 639
    ≡ text "<path d='M821.7 405.6l-5-9h10zH850.6m0-5v10' fill='#b35900' stroke='#b35900'>"
    ++ text "<title>called 20000.00, free until 2021-10-01</title></path>\n"
unfolding call_mark last_stroke placed x_of x_end x_after days_shown y_of fixed date_text digits decimal numeral
call =
    let e : date_text 639 ≡ text "2021-10-01" = ap dated_text (date_of-day_of_date 2021 10 1 (record { 0 = 639 }) october-2021) in
    rw (e, top-of-year) refl
