-- The calendar at its bounds (paper 01, 'Units and calendar').
-- Assumes nothing.
use Rattle.std.specs.Prelude.{◌≡◌, true, false, [], ◌∷◌, map}
use Rattle.calendar.specs.Civil.{leap, length_of, first_day, month_of, day_of_month, is_september, in_september, in_annual_days, is_first_october}

pub record Dates : Type 0 where
  -- The Gregorian rule: a fourth year, a common one, a hundredth and a four-hundredth.
  pub leap-2020 : leap 2020 ≡ true
  pub leap-2021 : leap 2021 ≡ false
  pub leap-2096 : leap 2096 ≡ true
  pub leap-2100 : leap 2100 ≡ false
  pub leap-2000 : leap 2000 ≡ true
  -- The months of 2020 and of 2021 (months 12 to 23), January first.
  pub lengths-2020 : map length_of (0 ∷ 1 ∷ 2 ∷ 3 ∷ 4 ∷ 5 ∷ 6 ∷ 7 ∷ 8 ∷ 9 ∷ 10 ∷ 11 ∷ [])
      ≡ 31 ∷ 29 ∷ 31 ∷ 30 ∷ 31 ∷ 30 ∷ 31 ∷ 31 ∷ 30 ∷ 31 ∷ 30 ∷ 31 ∷ []
  pub lengths-2021 : map length_of (12 ∷ 13 ∷ 14 ∷ 15 ∷ 16 ∷ 17 ∷ 18 ∷ 19 ∷ 20 ∷ 21 ∷ 22 ∷ 23 ∷ [])
      ≡ 31 ∷ 28 ∷ 31 ∷ 30 ∷ 31 ∷ 30 ∷ 31 ∷ 31 ∷ 30 ∷ 31 ∷ 30 ∷ 31 ∷ []
  -- "Day 0 is 1 January 2020, .. Month 0 is January 2020"
  pub first-day : first_day 0 ≡ 0
  pub day-0 : month_of 0 ≡ 0
  pub day-0-first : day_of_month 0 ≡ 1
  pub january-31 : month_of 30 ≡ 0
  pub january-31-day : day_of_month 30 ≡ 31
  pub february-1 : month_of 31 ≡ 1
  pub february-1-day : day_of_month 31 ≡ 1
  -- "29 February 2020 is day 59"
  pub leap-day : month_of 59 ≡ 1
  pub leap-day-day : day_of_month 59 ≡ 29
  pub march-1 : month_of 60 ≡ 2
  -- "the last day 29,219 (31 December 2099) .. Month 0 is January 2020, the last 959"; a day later is in no month of the calendar
  pub last-day : month_of 29219 ≡ 959
  pub last-day-day : day_of_month 29219 ≡ 31
  pub past-the-last : month_of 29220 ≡ 960
  pub far-past-the-last : month_of 29251 ≡ 960
  -- 31 August, 1 and 30 September and 1 October 2020 are the days 243, 244, 273 and 274
  pub august-no-september : is_september 7 ≡ false
  pub september : is_september 8 ≡ true
  pub october-no-september : is_september 9 ≡ false
  pub september-2021 : is_september 20 ≡ true
  pub august-31 : in_september 243 ≡ false
  pub september-1 : in_september 244 ≡ true
  pub september-30 : in_september 273 ≡ true
  pub october-1 : in_september 274 ≡ false
  -- 'Annual run': "1 to 10 September"
  pub annual-august-31 : in_annual_days 243 ≡ false
  pub annual-september-1 : in_annual_days 244 ≡ true
  pub annual-september-10 : in_annual_days 253 ≡ true
  pub annual-september-11 : in_annual_days 254 ≡ false
  -- .. and in no other month: 1 August and 1 October 2020
  pub annual-august-1 : in_annual_days 213 ≡ false
  pub annual-october-1 : in_annual_days 274 ≡ false
  -- .. of 2021, the days 609 to 618
  pub annual-2021-first : in_annual_days 609 ≡ true
  pub annual-2021-last : in_annual_days 618 ≡ true
  pub annual-2021-after : in_annual_days 619 ≡ false
  -- .. of 2099, the last: day 29,219 is 31 December, so 10 September is day 29,107 and 1 October day 29,128
  pub annual-2099-last : in_annual_days 29107 ≡ true
  pub annual-2099-after : in_annual_days 29108 ≡ false
  pub first-october-2099 : is_first_october 29128 ≡ true
  -- "1 October 2021 day 639"
  pub first-october-2020 : is_first_october 274 ≡ true
  pub first-october-before : is_first_october 638 ≡ false
  pub first-october-2021 : is_first_october 639 ≡ true
  pub first-october-after : is_first_october 640 ≡ false
  -- .. and no other first of a month: 1 September and 1 November 2020
  pub first-september : is_first_october 244 ≡ false
  pub first-november : is_first_october 305 ≡ false
