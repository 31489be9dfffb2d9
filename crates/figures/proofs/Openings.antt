-- Which openings change more of a file than its charges, and the charges after the others: each fact is computed from the definitions.
-- Assumes nothing.
use mathlib.Core.Path.{refl}
use Rattle.calendar.specs.Civil.{leap, length_in, length_of, first_day, holding, month_of, day_of_month, is_first_october}
use Rattle.manual.specs.Charge.{day_charge}
use Rattle.file.specs.Calls.{in_places}
use Rattle.file.specs.Charges.{changes_on, charges_after}
use Rattle.file.specs.Fields.{open_calls, cover_of, shortfall_of}
use Rattle.file.specs.Opening.{takes_effect}
use Rattle.file.specs.Position.{counts_through, cover_through, cover_on}
use Rattle.figures.specs.Openings.{Openings}

pub openings : Openings
unfolding leap length_in length_of first_day holding month_of day_of_month is_first_october day_charge in_places changes_on charges_after open_calls
    cover_of shortfall_of takes_effect counts_through cover_through cover_on
openings =
    record {
      nothing = refl;
      on-its-last-day = refl;
      after-its-last-day = refl;
      another-position = refl;
      on-its-first-day = refl;
      on-its-last-free-day = refl;
      after-its-last-free-day = refl;
      fourth-call = refl;
      no-call = refl;
      next-on-30-september = refl;
      next-on-1-october = refl;
      next-on-2-october = refl;
      next-in-leap-year = refl;
      unset-on-1-october = refl;
      covered = refl;
      one-cent = refl;
      at-least = refl;
      above-least = refl;
      day-before-first = refl;
      first-day = refl;
      last-day = refl;
      day-after-last = refl;
    }
