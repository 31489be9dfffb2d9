-- Dates from their parts, by the tests and sums of the code.
-- Assumes nothing.
use Prim.Native.Nat.{ℕ, ◌+◌, ◌-◌, ◌*◌, ◌/◌, ◌%◌, ◌≤◌, ◌<◌}
use mathlib.Core.Path.{◌≡◌, sym, ◌∙◌}
use mathlib.Core.Bool.{Bool, true, false}
use native.Mathlib.Omega.{arith}
use borrow.Author.Tests.{le-leb, lt-leb}
use Rattle.std.specs.Prelude.{Some, None}
use Rattle.calendar.specs.Civil.{first_day, first_day_of, month_of, day_of_month_of}
use Rattle.calendar.specs.Dates.{is_date, month_number, day_of_date, date_of}
use Rattle.calendar.specs.DateLaws.{Exists, exists-is, is-exists, day-small}
use Rattle.calendar.proofs.Lengths.{first_day_of-is}
use Rattle.calendar.proofs.Days.{day_of_month_of-is}

-- where there is such a date
pub date_exists : (y m d : ℕ) (t : Bool) → t ≡ is_date y m d → t ≡ true → Exists y m d
date_exists y m d t e f = is-exists y m d (sym e ∙ f)

-- where there is none, and where there is: the month's first day, small enough for the sum, and the days before the date
pub no_date : (y m d : ℕ) (t : Bool) → t ≡ is_date y m d → t ≡ false → None ≡ day_of_date y m d
unfolding day_of_date
no_date y m d t e f = rw (sym e ∙ f)

month-first : (y m d f : ℕ) → Exists y m d → f ≡ first_day_of (12 * (y - 2020) + (m - 1)) → f ≡ first_day (month_number y m)
unfolding month_number
month-first y m d f x g = g ∙ first_day_of-is (12 * (y - 2020) + (m - 1)) (omega arith)

pub date_small : (y m d f : ℕ) → Exists y m d → f ≡ first_day_of (12 * (y - 2020) + (m - 1)) → f + (d - 1) ≤ 29219
date_small y m d f x g = omega (arith, month-first y m d f x g, day-small y m d x)

pub date_on : (y m d f : ℕ) → Exists y m d → f ≡ first_day_of (12 * (y - 2020) + (m - 1))
    → Some (record { 0 = f + (d - 1) }) ≡ day_of_date y m d
unfolding day_of_date
date_on y m d f x g = rw (exists-is y m d x, month-first y m d f x g)

-- the date of a day
pub dated_none : (d : ℕ) → 29219 < d → None ≡ date_of d
unfolding date_of
dated_none d h = rw (lt-leb d 29219 h)

pub dated_by_month : (d m r : ℕ) → d ≤ 29219 → m ≡ month_of d → r ≡ day_of_month_of d
    → Some (record { year = 2020 + m / 12; month = m % 12 + 1; day = r }) ≡ date_of d
unfolding date_of
dated_by_month d m r h e f = rw (le-leb d 29219 h, e, f, day_of_month_of-is d h)
