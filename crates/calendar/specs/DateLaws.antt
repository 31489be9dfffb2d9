-- Laws of dates: the date of a date's day is that date, the day of a day's date is that day, and the days that paper 01 names.
-- Assumes nothing.
use Rattle.std.specs.Prelude.{ℕ, suc, ◌+◌, ◌-◌, ◌*◌, ◌%◌, ◌≤◌, ◌<◌, ◌≡◌, refl, true, ◌&&◌, leb, Option, Some, None}
use Rattle.std.proofs.Common.{sym, ◌∙◌, leb-true, le-leb, lit≤, lit<}
use Rattle.std.proofs.Math.Path.{ap}
use Rattle.std.proofs.Math.Bool.{and-eq-true_iff}
use native.Mathlib.Omega.{arith}
use Rattle.laws.specs.Cases.{split}
use Rattle.calendar.specs.Civil.{leap, length_in, length_of, year_of, place_of, first_day, month_of, day_of_month, is_first_october}
use Rattle.calendar.specs.Dates.{is_date, month_number, day_of_date, date_of}
use Rattle.calendar.specs.Laws.{first_day-mono, first_day-suc, month_of-last, month_of-is, month_of-in}
use Rattle.calendar.specs.Laws.{day_of_month-ge, day_of_month-le, day_of_month-in, day_of_month-sum}
use Rattle.calendar.specs.Years.{first_day-last}
use Rattle.calendar.specs.declared.Day.{Day}
use Rattle.calendar.specs.declared.date.Date.{Date}

-- what it takes for a date to exist
pub record Exists (y m d : ℕ) : Type 0 where
  pub from : 2020 ≤ y
  pub to : y ≤ 2099
  pub january : 1 ≤ m
  pub december : m ≤ 12
  pub first : 1 ≤ d
  pub last : d ≤ length_in y (m - 1)

-- a date exists where the test of the definition passes, and the other way round
pub exists-is : (y m d : ℕ) → Exists y m d → is_date y m d ≡ true
unfolding is_date
exists-is y m d h =
    simp (
      le-leb 2020 y h.from,
      le-leb y 2099 h.to,
      le-leb 1 m h.january,
      le-leb m 12 h.december,
      le-leb 1 d h.first,
      le-leb d (length_in y (m - 1)) h.last,
    )

pub is-exists : (y m d : ℕ) → is_date y m d ≡ true → Exists y m d
unfolding is_date
is-exists y m d e =
    let a = (and-eq-true_iff (leb 2020 y && leb y 2099 && (leb 1 m && leb m 12)) (leb 1 d && leb d (length_in y (m - 1)))).0 e in
    let b = (and-eq-true_iff (leb 2020 y && leb y 2099) (leb 1 m && leb m 12)).0 a.0 in
    let f = (and-eq-true_iff (leb 2020 y) (leb y 2099)).0 b.0 in
    let g = (and-eq-true_iff (leb 1 m) (leb m 12)).0 b.1 in
    let h = (and-eq-true_iff (leb 1 d) (leb d (length_in y (m - 1)))).0 a.1 in
    record {
      from = leb-true 2020 y f.0;
      to = leb-true y 2099 f.1;
      january = leb-true 1 m g.0;
      december = leb-true m 12 g.1;
      first = leb-true 1 d h.0;
      last = leb-true d (length_in y (m - 1)) h.1;
    }

same-date : {y z m n d e : ℕ} → y ≡ z → m ≡ n → d ≡ e
    → ◌≡◌ {A = Option Date} (Some (record { year = y; month = m; day = d })) (Some (record { year = z; month = n; day = e }))
same-date f g h = cc

abbrev date_parts : ℕ → Date
date_parts d = record { year = year_of (month_of d); month = place_of (month_of d) + 1; day = day_of_month d }

-- the month of a date: one of the calendar's, of the date's year and at its place there
module _ (y m d : ℕ) (h : Exists y m d) where
  pub number_small : month_number y m < 960
  unfolding month_number
  number_small = omega arith

  pub number-year : year_of (month_number y m) ≡ y
  unfolding month_number
  number-year = omega arith

  pub number-place : place_of (month_number y m) ≡ m - 1
  unfolding month_number
  number-place = omega arith

  pub number-length : length_of (month_number y m) ≡ length_in y (m - 1)
  unfolding length_of
  number-length = rw (number-year, number-place)

  within : d - 1 < length_of (month_number y m)
  within = omega (arith, number-length)

  -- the day of a date is a day of the calendar, in the date's month and on its day of the month
  pub day-small : first_day (month_number y m) + (d - 1) ≤ 29219
  day-small =
      omega (
        arith,
        within,
        number_small,
        first_day-suc (month_number y m),
        first_day-mono (suc (month_number y m)) 960 number_small,
        first_day-last,
      )

  day-month : month_of (first_day (month_number y m) + (d - 1)) ≡ month_number y m
  day-month = month_of-in (month_number y m) (d - 1) number_small within

  day-number : day_of_month (first_day (month_number y m) + (d - 1)) ≡ d
  day-number = omega (arith, day_of_month-in (month_number y m) (d - 1) number_small within)

  date-back : date_of (first_day (month_number y m) + (d - 1)) ≡ Some (record { year = y; month = m; day = d })
  unfolding date_of
  date-back =
      rw (le-leb (first_day (month_number y m) + (d - 1)) 29219 day-small)
      (same-date (ap year_of day-month ∙ number-year) (omega (arith, ap place_of day-month, number-place)) day-number)

-- the date of a date's day is that date
pub date_of-day_of_date : (y m d : ℕ) (x : Day) → day_of_date y m d ≡ Some x
    → date_of x.0 ≡ Some (record { year = y; month = m; day = d })
unfolding day_of_date
date_of-day_of_date y m d x e =
    split (is_date y m d)
    (λ t.
    let f : ◌≡◌ {A = Option Day} (Some (record { 0 = first_day (month_number y m) + (d - 1) })) (Some x) = rw t at e in
    let g : record { 0 = first_day (month_number y m) + (d - 1) } ≡ x = cc in
    ap (λ (z : Day). date_of z.0) (sym g) ∙ date-back y m d (is-exists y m d t))
    (λ t. let f : ◌≡◌ {A = Option Day} None (Some x) = rw t at e in cc)

-- the date of a day exists
dates-exist : (d : ℕ) → d ≤ 29219 → Exists (year_of (month_of d)) (place_of (month_of d) + 1) (day_of_month d)
unfolding length_of
dates-exist d h =
    let e : month_of d % 12 + 1 - 1 ≡ month_of d % 12 = omega arith in
    record {
      from = omega arith;
      to = omega (arith, month_of-last d h);
      january = omega arith;
      december = omega arith;
      first = day_of_month-ge d;
      last = rw e (day_of_month-le d h);
    }

day-back : (d : ℕ) → d ≤ 29219 → day_of_date (year_of (month_of d)) (place_of (month_of d) + 1) (day_of_month d) ≡ Some (record { 0 = d })
unfolding day_of_date month_number
day-back d h =
    let e : 12 * (year_of (month_of d) - 2020) + (place_of (month_of d) + 1 - 1) ≡ month_of d = omega arith in
    rw (exists-is (year_of (month_of d)) (place_of (month_of d) + 1) (day_of_month d) (dates-exist d h), e, day_of_month-sum d)

-- the day of a day's date is that day
pub day_of_date-date_of : (d : ℕ) (x : Date) → date_of d ≡ Some x
    → day_of_date x.year x.month x.day ≡ Some (record { 0 = d })
unfolding date_of
day_of_date-date_of d x e =
    split (leb d 29219)
    (λ t.
    let f : ◌≡◌ {A = Option Date} (Some (date_parts d)) (Some x) = rw t at e in
    let g : date_parts d ≡ x = cc in
    ap (λ (z : Date). day_of_date z.year z.month z.day) (sym g) ∙ day-back d (leb-true d 29219 t))
    (λ t. let f : ◌≡◌ {A = Option Date} None (Some x) = rw t at e in cc)

-- 29 February 2020 is day 59, 1 October 2021 day 639 (paper 01, 'Units and calendar'), and 31 December 2099 the last day
pub leap-day : day_of_date 2020 2 29 ≡ Some (record { 0 = 59 })
unfolding day_of_date is_date month_number first_day length_of length_in leap
leap-day = refl

pub october-2021 : day_of_date 2021 10 1 ≡ Some (record { 0 = 639 })
unfolding day_of_date is_date month_number first_day length_of length_in leap
october-2021 = refl

pub october-2021-month : month_of 639 ≡ 21
unfolding first_day length_of length_in leap
october-2021-month = month_of-is 21 639 (lit< tt) (lit≤ tt) (lit< tt)

pub october-2021-first : is_first_october 639 ≡ true
unfolding is_first_october day_of_month first_day length_of length_in leap
october-2021-first = rw october-2021-month
