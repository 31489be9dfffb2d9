-- What the code decides of a day: the first day of its month, and its day of the month.
-- Assumes nothing.
use Prim.Native.Nat.{ℕ, ◌+◌, ◌-◌, ◌≤◌, ◌<◌}
use mathlib.Core.Path.{◌≡◌, ap, ◌∙◌}
use native.Mathlib.Omega.{arith}
use borrow.Author.Tests.{le-leb, lt-leb}
use Rattle.calendar.specs.Civil.{month_of, first_day, first_day_of, day_of_month, day_of_month_of}
use Rattle.calendar.specs.Laws.{month_of-last, month_of-first}
use Rattle.calendar.proofs.Lengths.{first_day_of-is}

-- the first day of a day's month
pub first-of-day : (d m f : ℕ) → d ≤ 29219 → m ≡ month_of d → f ≡ first_day_of m → f ≡ first_day (month_of d)
first-of-day d m f h e g = g ∙ ap first_day_of e ∙ first_day_of-is (month_of d) (omega (arith, month_of-last d h))

pub first_before : (d m f : ℕ) → d ≤ 29219 → m ≡ month_of d → f ≡ first_day_of m → f ≤ d
first_before d m f h e g = omega (arith, first-of-day d m f h e g, month_of-first d)

-- the day of the month
pub no_day : (d : ℕ) → 29219 < d → 0 ≡ day_of_month_of d
unfolding day_of_month_of
no_day d h = rw (lt-leb d 29219 h)

pub day_of_month_of-is : (d : ℕ) → d ≤ 29219 → day_of_month_of d ≡ day_of_month d
unfolding day_of_month_of
day_of_month_of-is d h = rw (le-leb d 29219 h)

pub day_from_first : (d m f : ℕ) → d ≤ 29219 → m ≡ month_of d → f ≡ first_day_of m → d - f + 1 ≡ day_of_month_of d
unfolding day_of_month
day_from_first d m f h e g = rw (day_of_month_of-is d h, first-of-day d m f h e g)
