-- The calendar at its bounds: each fact is computed from the definitions.
-- Assumes nothing.
use mathlib.Core.Path.{refl}
use Rattle.calendar.specs.Civil.{leap, length_in, length_of, first_day, holding, month_of, day_of_month, is_september, in_september, in_annual_days}
use Rattle.calendar.specs.Civil.{is_first_october}
use Rattle.figures.specs.Dates.{Dates}

pub dates : Dates
unfolding leap length_in length_of first_day holding month_of day_of_month is_september in_september in_annual_days is_first_october
dates =
    record {
      leap-2020 = refl;
      leap-2021 = refl;
      leap-2096 = refl;
      leap-2100 = refl;
      leap-2000 = refl;
      lengths-2020 = refl;
      lengths-2021 = refl;
      first-day = refl;
      day-0 = refl;
      day-0-first = refl;
      january-31 = refl;
      january-31-day = refl;
      february-1 = refl;
      february-1-day = refl;
      leap-day = refl;
      leap-day-day = refl;
      march-1 = refl;
      last-day = refl;
      last-day-day = refl;
      past-the-last = refl;
      far-past-the-last = refl;
      august-no-september = refl;
      september = refl;
      october-no-september = refl;
      september-2021 = refl;
      august-31 = refl;
      september-1 = refl;
      september-30 = refl;
      october-1 = refl;
      annual-august-31 = refl;
      annual-september-1 = refl;
      annual-september-10 = refl;
      annual-september-11 = refl;
      annual-august-1 = refl;
      annual-october-1 = refl;
      annual-2021-first = refl;
      annual-2021-last = refl;
      annual-2021-after = refl;
      annual-2099-last = refl;
      annual-2099-after = refl;
      first-october-2099 = refl;
      first-october-2020 = refl;
      first-october-before = refl;
      first-october-2021 = refl;
      first-october-after = refl;
      first-september = refl;
      first-november = refl;
    }
