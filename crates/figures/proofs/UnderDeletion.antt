-- Participants under deletion over their lives: each fact is computed from the definitions.
-- Assumes nothing.
use mathlib.Core.Path.{refl}
use Rattle.laws.specs.Causes.{decide}
use Rattle.laws.specs.Integers.{larger, sum_of}
use Rattle.calendar.specs.Civil.{leap, length_in, length_of, first_day, holding, month_of, day_of_month, is_september, in_annual_days, is_first_october}
use Rattle.calendar.specs.Civil.{is_deletion_month, in_deletion_months}
use Rattle.manual.specs.Largest.{largest_total, largest_at_least}
use Rattle.manual.specs.Annual.{annual_amount}
use Rattle.manual.specs.Deletion.{deletion_amount}
use Rattle.manual.specs.Charge.{day_charge}
use Rattle.manual.specs.Check.{exceeds_tolerance, exceeds_each, call_is_made, checked}
use Rattle.manual.specs.Figures.{wrong_count, all_within, out_of_range}
use Rattle.manual.specs.Minimum.{minimum_of}
use Rattle.file.specs.Calls.{largest, keep}
use Rattle.file.specs.Position.{emptied_on, outside_amounts}
use Rattle.file.specs.Settle.{outside_months, check_due}
use Rattle.file.specs.Totals.{totals_from}
use Rattle.book.specs.Reading.Calls.{base_in, firm_from, open_on, called_in, deletion_called, calls_in, firm_in, open_in}
use Rattle.book.specs.Reading.Charges.{before, opening_shortfall, days_since, count_short, sum_charges, charged_in, accrued_in}
use Rattle.book.specs.Reading.Decisions.{settlement_answer, own_causes, own_answer, own_statement, calls_below, decision, with_call, events_of}
use Rattle.book.specs.Reading.Events.{mine, today_of, with_days, admitted_in, leaving_in, role_in}
use Rattle.book.specs.Reading.Holdings.{last_lodged, released_since, left_at, position_in, lodged_where, released_where, cover_in, deposited_in}
use Rattle.book.specs.Reading.Months.{total_in, years_totals, annual_in, totals_before, deletion_in, next_in}
use Rattle.figures.specs.History.{newest_first, decides, happened, happened_to, shortfalls}
use Rattle.figures.specs.UnderDeletion.{UnderDeletion}

pub under-deletion : UnderDeletion
unfolding decide larger sum_of leap length_in length_of first_day holding month_of day_of_month is_september in_annual_days is_first_october
    is_deletion_month in_deletion_months largest_total largest_at_least annual_amount deletion_amount day_charge exceeds_tolerance exceeds_each
    call_is_made checked wrong_count all_within out_of_range minimum_of largest keep emptied_on outside_amounts outside_months check_due totals_from
    base_in firm_from open_on called_in deletion_called calls_in firm_in open_in before opening_shortfall days_since count_short sum_charges
    charged_in accrued_in settlement_answer own_causes own_answer own_statement calls_below decision with_call events_of mine today_of with_days
    admitted_in leaving_in role_in last_lodged released_since left_at position_in lodged_where released_where cover_in deposited_in total_in
    years_totals annual_in totals_before deletion_in next_in newest_first decides happened happened_to shortfalls
under-deletion =
    record {
      last-free-day = refl;
      first-charged-day = refl;
      paid = refl;
      firm-on-october = refl;
      stated-before = refl;
      stated-after = refl;
      not-admitted-again = refl;
      lower-after = refl;
      higher-after = refl;
      release-left = refl;
      release-short = refl;
      no-annual-run = refl;
      no-annual-run-later = refl;
      fourteen-before-25 = refl;
      fourteen-behind = refl;
      no-annual-run-next-year = refl;
      no-annual-run-in-2022 = refl;
      sets-none = refl;
      two-before-25 = refl;
      annual-of-another = refl;
      next-kept = refl;
      next-kept-short = refl;
      next-left = refl;
      next-short = refl;
      call-left = refl;
      call-short = refl;
      placed-20 = refl;
      before-october-20 = refl;
      on-october-20 = refl;
      open-on-october-20 = refl;
      mid-october-20 = refl;
      october-15-of-20 = refl;
      placed-21 = refl;
      on-october-21 = refl;
      open-on-october-21 = refl;
      second-october-21 = refl;
      mid-october-21 = refl;
      day-by-day-21 = refl;
      october-15-of-21 = refl;
      tenth-october-30 = refl;
      mid-october-30 = refl;
      october-15-of-30 = refl;
      higher-on-october = refl;
      higher-open = refl;
      higher-not-raised = refl;
      higher-open-30 = refl;
      higher-not-raised-30 = refl;
      equal-on-october = refl;
      equal-open = refl;
      higher-closed = refl;
      settle-below-call = refl;
      settle-above-call = refl;
      settle-below-firm = refl;
      settle-above-firm = refl;
      settle-second = refl;
      settle-same-day = refl;
      settle-tolerance = refl;
      settle-november = refl;
      settle-september = refl;
      settle-september-made = refl;
      august-called = refl;
      august-october = refl;
      august-uncalled = refl;
      august-stays = refl;
      august-falls = refl;
    }
