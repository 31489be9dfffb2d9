-- The starred figures of paper 01 hold: each is computed from the definitions.
-- Assumes nothing.
use mathlib.Core.Path.{refl}
use Rattle.laws.specs.Causes.{decide}
use Rattle.laws.specs.Every.{every}
use Rattle.laws.specs.Integers.{larger, sum_of}
use Rattle.laws.specs.Largest.{insert, falling, three_largest, mean_of_three}
use Rattle.laws.specs.Signed.{floor_div, nearest}
use Rattle.calendar.specs.Civil.{leap, length_in, length_of, first_day, holding, month_of, day_of_month, is_september, in_annual_days, is_first_october}
use Rattle.manual.specs.Largest.{largest_total, largest_at_least}
use Rattle.manual.specs.Annual.{annual_amount}
use Rattle.manual.specs.Charge.{day_charge}
use Rattle.manual.specs.Check.{exceeds_tolerance, exceeds_each, call_is_made, checked}
use Rattle.manual.specs.Figures.{wrong_count, all_within, out_of_range}
use Rattle.manual.specs.Minimum.{minimum_of}
use Rattle.special.specs.Causes.{wrong_lengths, outside_ranges, too_few}
use Rattle.special.specs.Guarantee.{at_least, amount, special_guarantee}
use Rattle.special.specs.Ratio.{usable, ratio}
use Rattle.file.specs.Admit.{calls_of_admission, admitted_file}
use Rattle.file.specs.Annual.{annual_totals, annual_amount_of, annual_answer, annual_file}
use Rattle.file.specs.Calls.{largest, in_places, keep}
use Rattle.file.specs.Fields.{open_calls, cover_of, shortfall_of}
use Rattle.file.specs.Lodge.{lodge_answer, lodged_file}
use Rattle.file.specs.Opening.{slots_opened, calls_opened, firm_raised, takes_effect, firm_opened, next_opened, shortfall_opened, opened_file}
use Rattle.file.specs.Position.{counts_through, cover_through, cover_on, emptied_on, outside_amounts}
use Rattle.file.specs.Release.{release_floor, slots_left, release_answer, released_file}
use Rattle.file.specs.Settle.{outside_months, check_due, deposited, settlement_calls, settled_answer, settle_answer, calls_settled, settled_file}
use Rattle.file.specs.Statement.{file_statement}
use Rattle.file.specs.Totals.{total_here, total_at, with_total, totals_from}
use Rattle.book.specs.Account.{fresh_book, file_at, with_file, if_numbered, if_admitted, file_answer, file_after, opened_if_admitted, open_day}
use Rattle.book.specs.Account.{open_days, answer, applied, step, run}
use Rattle.book.specs.Reading.Calls.{base_in, firm_from, open_on, called_in, calls_in, firm_in, open_in}
use Rattle.book.specs.Reading.Charges.{before, opening_shortfall, days_since, count_short, sum_charges, charged_in, accrued_in}
use Rattle.book.specs.Reading.Decisions.{settlement_answer, own_causes, own_answer, own_statement, calls_below, decision, with_call, events_of}
use Rattle.book.specs.Reading.Events.{mine, today_of, with_days, admitted_in, leaving_in, role_in}
use Rattle.book.specs.Reading.Holdings.{last_lodged, released_since, left_at, position_in, lodged_where, released_where, cover_in, deposited_in}
use Rattle.book.specs.Reading.Months.{total_in, years_totals, annual_in, next_in}
use Rattle.figures.specs.History.{newest_first, accrued_by, accrued_of, shortfalls}
use Rattle.figures.specs.Figures.{Figures}

pub figures : Figures
unfolding decide every larger sum_of insert falling three_largest mean_of_three floor_div nearest leap length_in length_of first_day holding month_of
    day_of_month is_september in_annual_days is_first_october largest_total largest_at_least annual_amount day_charge exceeds_tolerance exceeds_each
    call_is_made checked wrong_count all_within out_of_range minimum_of wrong_lengths outside_ranges too_few at_least amount special_guarantee usable
    ratio calls_of_admission admitted_file annual_totals annual_amount_of annual_answer annual_file largest in_places keep open_calls cover_of
    shortfall_of lodge_answer lodged_file slots_opened calls_opened firm_raised takes_effect firm_opened next_opened shortfall_opened opened_file
    counts_through cover_through cover_on emptied_on outside_amounts release_floor slots_left release_answer released_file outside_months check_due
    deposited settlement_calls settled_answer settle_answer calls_settled settled_file file_statement total_here total_at with_total totals_from
    fresh_book file_at with_file if_numbered if_admitted file_answer file_after opened_if_admitted open_day open_days answer applied step run base_in
    firm_from open_on called_in calls_in firm_in open_in before opening_shortfall days_since count_short sum_charges charged_in accrued_in
    settlement_answer own_causes own_answer own_statement calls_below decision with_call events_of mine today_of with_days admitted_in leaving_in
    role_in last_lodged released_since left_at position_in lodged_where released_where cover_in deposited_in total_in years_totals annual_in next_in
    newest_first accrued_by accrued_of shortfalls
figures =
    record {
      example-1-largest = refl;
      example-1-amount = refl;
      example-2-july = refl;
      example-2-august = refl;
      at-20-percent = refl;
      below-20-percent = refl;
      nothing-due = refl;
      credit = refl;
      charge-of-0 = refl;
      charge-of-1 = refl;
      charge-at-least = refl;
      charge-above-least = refl;
      example-3-shortfalls = refl;
      example-3 = refl;
      example-3-book = refl;
      example-3-paid = refl;
      example-3-paid-book = refl;
      two-days-shortfalls = refl;
      two-days = refl;
      two-days-book = refl;
      medium-ratio-of-three = refl;
      low-ratio-of-three = refl;
      medium-ratio = refl;
      low-ratio = refl;
      section-8 = refl;
    }
