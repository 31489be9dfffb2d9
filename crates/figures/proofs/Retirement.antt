-- The role that is retired, at its bounds and over a life: each fact is computed from the definitions.
-- Assumes nothing.
use mathlib.Core.Path.{refl}
use Rattle.laws.specs.Causes.{decide}
use Rattle.laws.specs.Integers.{larger, sum_of}
use Rattle.laws.specs.Least.{least}
use Rattle.calendar.specs.Civil.{leap, length_in, length_of, first_day, holding, month_of, day_of_month, is_september, in_annual_days, is_first_october}
use Rattle.manual.specs.Largest.{largest_total, largest_at_least}
use Rattle.manual.specs.Annual.{annual_amount}
use Rattle.manual.specs.Charge.{day_charge}
use Rattle.manual.specs.Check.{exceeds_tolerance, exceeds_each, call_is_made, checked}
use Rattle.manual.specs.Figures.{wrong_count, all_within, out_of_range}
use Rattle.manual.specs.Minimum.{minimum_of}
use Rattle.file.specs.Calls.{largest, keep}
use Rattle.file.specs.Position.{emptied_on, outside_amounts}
use Rattle.file.specs.Settle.{outside_months, check_due}
use Rattle.file.specs.Totals.{totals_from}
use Rattle.batch.specs.Bytes.{number_at, signed_of}
use Rattle.batch.specs.Batch.{month_in, count_in, offset_at, length_at, end_at, begins_at, participant_at, rows_at, figures_behind, figures_at, too_short}
use Rattle.batch.specs.Batch.{misplaced, first_misplaced, not_following, is_before, wrong_length, wrong_part, first_wrong, refused_if, form_of}
use Rattle.book.specs.Call.{first_refused, batch_says}
use Rattle.book.specs.Reading.Calls.{base_in, firm_from, open_on, called_in, calls_in, firm_in, open_in}
use Rattle.book.specs.Reading.Charges.{before, opening_shortfall, days_since, count_short, sum_charges, charged_in, accrued_in}
use Rattle.book.specs.Reading.Decisions.{settlement_answer, own_causes, own_answer, own_statement, calls_below, decision, with_call, events_of}
use Rattle.book.specs.Reading.Decisions.{part_decision, with_parts}
use Rattle.book.specs.Reading.Events.{mine, today_of, with_days, admitted_in, leaving_in, role_in}
use Rattle.book.specs.Reading.Holdings.{last_lodged, released_since, left_at, position_in, lodged_where, released_where, cover_in, deposited_in}
use Rattle.book.specs.Reading.Months.{total_in, years_totals, annual_in, next_in}
use Rattle.figures.specs.History.{newest_first, decides, decides_behind, decides_first, happened, own_behind, shortfalls_behind}
use Rattle.figures.specs.Retirement.{Retirement}

pub retirement : Retirement
unfolding decide larger sum_of least leap length_in length_of first_day holding month_of day_of_month is_september in_annual_days is_first_october
    largest_total largest_at_least annual_amount day_charge exceeds_tolerance exceeds_each call_is_made checked wrong_count all_within out_of_range
    minimum_of largest keep emptied_on outside_amounts outside_months check_due totals_from number_at signed_of month_in count_in offset_at length_at
    end_at begins_at participant_at rows_at figures_behind figures_at too_short misplaced first_misplaced not_following is_before wrong_length
    wrong_part first_wrong refused_if form_of first_refused batch_says base_in firm_from open_on called_in calls_in firm_in open_in before
    opening_shortfall days_since count_short sum_charges charged_in accrued_in settlement_answer own_causes own_answer own_statement calls_below
    decision part_decision with_parts with_call events_of mine today_of with_days admitted_in leaving_in role_in last_lodged released_since left_at
    position_in lodged_where released_where cover_in deposited_in total_in years_totals annual_in next_in newest_first decides decides_behind
    decides_first happened own_behind shortfalls_behind
retirement =
    record {
      role-0 = refl;
      role-1 = refl;
      role-2 = refl;
      roles-3-to-5 = refl;
      role-6 = refl;
      participant-63 = refl;
      first-role-0 = refl;
      first-role-1 = refl;
      first-role-2 = refl;
      first-roles-3-to-5 = refl;
      first-role-6 = refl;
      first-participant-63 = refl;
      admit-1-before-23 = refl;
      admit-3-before-23 = refl;
      kept-3-before-23 = refl;
      kept-3 = refl;
      kept-3-before-4 = refl;
      first-1 = refl;
      first-3 = refl;
      first-1-before-4 = refl;
      first-3-before-4 = refl;
      last-of-first = refl;
      first-since = refl;
      same-day = refl;
      same-day-next = refl;
      still-first = refl;
      later-days = refl;
      later-since = refl;
      last-day = refl;
      last-day-since = refl;
      refused-again = refl;
      empty-first = refl;
      first-lodge = refl;
      first-release = refl;
      first-advance = refl;
      first-annual = refl;
      first-statement = refl;
      first-settle = refl;
      first-covered = refl;
      first-batch = refl;
      first-batch-refused = refl;
      kept-batch = refl;
      refused-statement = refl;
      refused-lodge = refl;
      refused-batch = refl;
      refused-made = refl;
      refused-happened = refl;
      refused-then = refl;
      refused-then-firm = refl;
      made = refl;
      made-since = refl;
      two_made = refl;
      open-call = refl;
      open-last-day = refl;
      open-no-longer = refl;
      role_kept = refl;
      release-left = refl;
      release-short = refl;
      release-in-part = refl;
      release-firm-left = refl;
      release-firm-short = refl;
      began = refl;
      last-free-day = refl;
      first-charged-day = refl;
      third-charged-day = refl;
      had-it-paid = refl;
      settle-at-firm = refl;
      settle-above-firm = refl;
      settle-calls = refl;
      settle-made = refl;
      before-firm = refl;
      called-firm = refl;
      paid-today = refl;
      day-after = refl;
      settle-covered = refl;
      settle-at-20 = refl;
      day-by-day = refl;
      day-charges = refl;
      annual-largest = refl;
      annual-recorded = refl;
      annual-raised = refl;
      before-october = refl;
      on-october = refl;
      october-left = refl;
      october-short = refl;
      annual-before = refl;
      annual-first-day = refl;
      annual-last-day = refl;
      annual-after = refl;
      annual-next-year = refl;
      annual-below = refl;
      annual-credit = refl;
      annual-above = refl;
      annual-of-first = refl;
      annual-of-first-month = refl;
      next-left = refl;
      next-short = refl;
      next-september = refl;
      next-october = refl;
      next-replaced = refl;
      next-replaced-october = refl;
      same-minimum = refl;
      minimum-1 = refl;
    }
