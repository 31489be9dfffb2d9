-- "cover and firm amount as steps over the days .. dates on the axis, legible in print": where a day and an amount stand in the picture. A place is in
-- tenths of a unit, of which the picture is 1,140 wide and 520 high; the plot is from 130 to 1090 and, from its top, from 60 to 420.
-- Assumes nothing.
use Rattle.std.specs.Prelude.{ℕ, ◌+◌, ◌-◌, ◌*◌, ◌/◌, ◌^◌, min, max, cond, leb, length}
use Rattle.calendar.specs.Civil.{last_day}
use Rattle.printing.specs.Decimals.{decimal}
use Rattle.chart.specs.declared.Scale.{Scale}

-- How many days the axis has: one at least, whatever the scale says.
unfoldable pub days_shown : Scale → ℕ
days_shown s = max 1 s.days

-- The last of them, or the calendar's last day where that is earlier.
unfoldable pub last_shown : Scale → ℕ
last_shown s = min (s.first.0 + (days_shown s - 1)) last_day

-- The place so many days behind the beginning of the axis, rounded down; behind the end of the axis, its end.
unfoldable pub x_after : Scale → ℕ → ℕ
x_after s n = 1300 + 9600 * min n (days_shown s) / days_shown s

-- The beginning of a day, and its end. A day before the axis is at its beginning, and one behind it at its end.
unfoldable pub x_of : Scale → ℕ → ℕ
x_of s d = x_after s (d - s.first.0)

unfoldable pub x_end : Scale → ℕ → ℕ
x_end s d = x_after s (d + 1 - s.first.0)

-- The amount that the height of the plot is made for: 100 cents at least, and at most 2 * 10^15, since the firm amounts of 64 participants are together
-- not above that (file/specs/Sound.antt).
unfoldable pub most_drawn : ℕ → ℕ
most_drawn most = max 100 (min most 2000000000000000)

-- The largest power of ten that isn't above a number from 1 on: one less ten than it has digits.
unfoldable pub power_within : ℕ → ℕ
power_within n = 10 ^ (length (decimal n) - 1)

-- The least of 1, 2, 5 and 10 units that isn't below an amount.
unfoldable pub round_up : ℕ → ℕ → ℕ
round_up unit n = cond (leb n unit) unit (cond (leb n (2 * unit)) (2 * unit) (cond (leb n (5 * unit)) (5 * unit) (10 * unit)))

-- The amount at the top of the plot: 1, 2 or 5 times a power of ten.
unfoldable pub top_of : ℕ → ℕ
top_of most = round_up (power_within (most_drawn most)) (most_drawn most)

-- The height of an amount, from the picture's top; an amount above the top of the plot is at its top.
unfoldable pub y_of : Scale → ℕ → ℕ
y_of s a = 4200 - 3600 * min a (top_of s.most) / top_of s.most
