-- D of a check at its bounds: each fact is computed from the definitions.
-- Assumes nothing.
use mathlib.Core.Path.{refl}
use Rattle.laws.specs.Causes.{decide}
use Rattle.laws.specs.Integers.{larger, sum_of}
use Rattle.calendar.specs.Civil.{leap, length_in, length_of, first_day, holding, month_of, day_of_month, is_september, in_annual_days, is_first_october}
use Rattle.manual.specs.Largest.{largest_total, largest_at_least}
use Rattle.manual.specs.Annual.{annual_amount}
use Rattle.manual.specs.Charge.{day_charge}
use Rattle.manual.specs.Check.{exceeds_tolerance, exceeds_each, call_is_made, checked}
use Rattle.manual.specs.Figures.{wrong_count, all_within, out_of_range}
use Rattle.manual.specs.Minimum.{minimum_of}
use Rattle.file.specs.Calls.{largest, keep}
use Rattle.file.specs.Position.{emptied_on, outside_amounts}
use Rattle.file.specs.Settle.{outside_months, check_due}
use Rattle.file.specs.Totals.{totals_from}
use Rattle.book.specs.Reading.Calls.{base_in, firm_from, open_on, called_in, calls_in, firm_in, open_in}
use Rattle.book.specs.Reading.Charges.{before, opening_shortfall, days_since, count_short, sum_charges, charged_in, accrued_in}
use Rattle.book.specs.Reading.Decisions.{settlement_answer, own_causes, own_answer, own_statement, calls_below, decision, with_call, events_of}
use Rattle.book.specs.Reading.Events.{mine, today_of, with_days, admitted_in, leaving_in, role_in}
use Rattle.book.specs.Reading.Holdings.{last_lodged, released_since, left_at, position_in, lodged_where, released_where, cover_in, deposited_in}
use Rattle.book.specs.Reading.Months.{total_in, years_totals, annual_in, next_in}
use Rattle.figures.specs.History.{newest_first, decides}
use Rattle.figures.specs.Deposits.{Deposits}

pub deposits : Deposits
unfolding decide larger sum_of leap length_in length_of first_day holding month_of day_of_month is_september in_annual_days is_first_october
    largest_total largest_at_least annual_amount day_charge exceeds_tolerance exceeds_each call_is_made checked wrong_count all_within out_of_range
    minimum_of largest keep emptied_on outside_amounts outside_months check_due totals_from base_in firm_from open_on called_in calls_in firm_in
    open_in before opening_shortfall days_since count_short sum_charges charged_in accrued_in settlement_answer own_causes own_answer own_statement
    calls_below decision with_call events_of mine today_of with_days admitted_in leaving_in role_in last_lodged released_since left_at position_in
    lodged_where released_where cover_in deposited_in total_in years_totals annual_in next_in newest_first decides
deposits =
    record {
      three-days-left = refl;
      three-days = refl;
      cover-above = refl;
      last-t-11 = refl;
      last-t-11-at-20 = refl;
      last-t-10 = refl;
      asked-more = refl;
      from-today = refl;
      from-tomorrow = refl;
      not-the-smaller = refl;
      day-29208 = refl;
      day-29209 = refl;
      cash-on-29219 = refl;
      letter-released = refl;
      short-letter-released = refl;
      cash-released = refl;
      made = refl;
      not_made = refl;
      fifth-call = refl;
      no-fifth-call = refl;
      firm = refl;
      not-firm = refl;
      release-rule = refl;
      cover-today = refl;
      not-charged = refl;
      starred-covered = refl;
      starred-called = refl;
      starred-at-20 = refl;
      starred-below-20 = refl;
      starred-none = refl;
      starred-credit = refl;
      stays-to-t-11 = refl;
      stays-to-t-10 = refl;
      stays-begun = refl;
      stays-from-tomorrow = refl;
      stays-none = refl;
      stays-29208 = refl;
      stays-29209 = refl;
      stays-cash = refl;
    }
