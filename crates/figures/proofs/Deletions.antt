-- Deletions, at every bound: each fact is computed from the definitions.
-- Assumes nothing.
use mathlib.Core.Path.{refl}
use Rattle.laws.specs.Causes.{decide}
use Rattle.laws.specs.Integers.{larger, sum_of}
use Rattle.calendar.specs.Civil.{leap, length_in, length_of, first_day, holding, month_of, day_of_month, is_september, in_annual_days, is_first_october}
use Rattle.calendar.specs.Civil.{is_deletion_month, in_deletion_months}
use Rattle.manual.specs.Largest.{largest_total, largest_at_least}
use Rattle.manual.specs.Annual.{annual_amount}
use Rattle.manual.specs.Deletion.{deletion_amount}
use Rattle.manual.specs.Check.{exceeds_tolerance, exceeds_each, call_is_made, checked}
use Rattle.manual.specs.Figures.{wrong_count, all_within, out_of_range}
use Rattle.manual.specs.Minimum.{minimum_of}
use Rattle.file.specs.Calls.{largest, keep}
use Rattle.file.specs.Position.{emptied_on, outside_amounts}
use Rattle.file.specs.Settle.{outside_months, check_due}
use Rattle.file.specs.Totals.{totals_from}
use Rattle.book.specs.Reading.Calls.{base_in, firm_from, open_on, called_in, deletion_called, calls_in, firm_in, open_in}
use Rattle.book.specs.Reading.Decisions.{settlement_answer, own_causes, own_answer, calls_below, decision, with_call, events_of}
use Rattle.book.specs.Reading.Events.{mine, today_of, with_days, admitted_in, leaving_in, role_in}
use Rattle.book.specs.Reading.Holdings.{last_lodged, released_since, left_at, position_in, lodged_where, released_where, cover_in, deposited_in}
use Rattle.book.specs.Reading.Months.{total_in, years_totals, annual_in, totals_before, deletion_in, next_in}
use Rattle.figures.specs.History.{newest_first, decides, decides_first, happened, happened_to}
use Rattle.figures.specs.Deletions.{Deletions}

pub deletions : Deletions
unfolding decide larger sum_of leap length_in length_of first_day holding month_of day_of_month is_september in_annual_days is_first_october
    is_deletion_month in_deletion_months largest_total largest_at_least annual_amount deletion_amount exceeds_tolerance exceeds_each call_is_made
    checked wrong_count all_within out_of_range minimum_of largest keep emptied_on outside_amounts outside_months check_due totals_from base_in
    firm_from open_on called_in deletion_called calls_in firm_in open_in settlement_answer own_causes own_answer calls_below decision with_call
    events_of mine today_of with_days admitted_in leaving_in role_in last_lodged released_since left_at position_in lodged_where released_where
    cover_in deposited_in total_in years_totals annual_in totals_before deletion_in next_in newest_first decides decides_first happened happened_to
deletions =
    record {
      days-2020 = refl;
      months-2020 = refl;
      days-2021 = refl;
      days-2099 = refl;
      amount-none = refl;
      amount-negative = refl;
      amount-all-negative = refl;
      amount-zero = refl;
      amount-one = refl;
      amount-in-front = refl;
      amount-between = refl;
      amount-at-end = refl;
      participant-64 = refl;
      participant-63 = refl;
      not-admitted = refl;
      one-before-24 = refl;
      two-before-24 = refl;
      july-31 = refl;
      august-1 = refl;
      august-31 = refl;
      september-1 = refl;
      september-30 = refl;
      october-1 = refl;
      march-1 = refl;
      last-september = refl;
      already = refl;
      already-next-month = refl;
      already-next-year = refl;
      another = refl;
      refused-before = refl;
      refused-happened = refl;
      fifth = refl;
      fourth = refl;
      fifth-last-day = refl;
      fifth-uncalled = refl;
      twentyfour-before-13 = refl;
      already-before-13 = refl;
      fifth-made = refl;
      fifth-later = refl;
      fifth-annual = refl;
      fifth-settlement = refl;
      three-latest = refl;
      not-last-settled = refl;
      with-gaps = refl;
      three-months = refl;
      two-months = refl;
      one-month = refl;
      no-month = refl;
      negative = refl;
      beside-negative = refl;
      behind-negative = refl;
      behind-zero = refl;
      replaced = refl;
      p-14 = refl;
      p-15 = refl;
      p-14-beside-p-15 = refl;
      september-p-14 = refl;
      september-p-15 = refl;
      p_2 = refl;
      annual-p-2 = refl;
      month-0 = refl;
      at-firm = refl;
      above-firm = refl;
      at_call = refl;
      above-call = refl;
      between-calls = refl;
      firm-and-call = refl;
      above-each = refl;
      lowered-firm = refl;
      below-minimum = refl;
      below-trader-minimum = refl;
      whatever-the-cover = refl;
      below_next = refl;
      counts = refl;
      counts-not = refl;
      open-call = refl;
      open-call-made = refl;
      first-stretch = refl;
      first-stretch-24 = refl;
      first-stretch-annual = refl;
    }
