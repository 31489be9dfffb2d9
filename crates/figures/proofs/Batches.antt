-- Batches in short histories: each fact is computed from the definitions.
-- Assumes nothing.
use mathlib.Core.Path.{refl}
use Rattle.laws.specs.Causes.{decide}
use Rattle.laws.specs.Integers.{larger, sum_of}
use Rattle.calendar.specs.Civil.{leap, length_in, length_of, first_day, holding, month_of, day_of_month, is_september, in_annual_days, is_first_october}
use Rattle.manual.specs.Largest.{largest_total, largest_at_least}
use Rattle.manual.specs.Annual.{annual_amount}
use Rattle.manual.specs.Charge.{day_charge}
use Rattle.manual.specs.Check.{exceeds_tolerance, exceeds_each, call_is_made, checked}
use Rattle.manual.specs.Figures.{wrong_count, all_within, out_of_range}
use Rattle.manual.specs.Minimum.{minimum_of}
use Rattle.file.specs.Admit.{calls_of_admission, admitted_file}
use Rattle.file.specs.Annual.{annual_totals, annual_amount_of, annual_answer, annual_file}
use Rattle.file.specs.Calls.{largest, in_places, keep}
use Rattle.file.specs.Fields.{open_calls, cover_of, shortfall_of}
use Rattle.file.specs.Opening.{slots_opened, calls_opened, firm_raised, takes_effect, firm_opened, next_opened, shortfall_opened, opened_file}
use Rattle.file.specs.Position.{counts_through, cover_through, cover_on, emptied_on, outside_amounts}
use Rattle.file.specs.Settle.{outside_months, check_due, deposited, settlement_calls, settled_answer, settle_answer, calls_settled, settled_file}
use Rattle.file.specs.Statement.{file_statement}
use Rattle.file.specs.Totals.{total_here, total_at, with_total, totals_from}
use Rattle.book.specs.Account.{fresh_book, file_at, with_file, sum_of_counts, if_numbered, if_admitted, file_answer, file_after, opened_if_admitted}
use Rattle.book.specs.Account.{open_day, open_days, answer, applied, step, run}
use Rattle.book.specs.Reading.Calls.{base_in, firm_from, open_on, called_in, calls_in, firm_in, open_in}
use Rattle.book.specs.Reading.Charges.{before, opening_shortfall, days_since, count_short, sum_charges, charged_in, accrued_in}
use Rattle.book.specs.Reading.Decisions.{settlement_answer, own_causes, own_answer, own_statement, calls_below, decision, with_call, events_of}
use Rattle.book.specs.Reading.Events.{mine, today_of, with_days, admitted_in, leaving_in, role_in}
use Rattle.book.specs.Reading.Holdings.{last_lodged, released_since, left_at, position_in, lodged_where, released_where, cover_in, deposited_in}
use Rattle.book.specs.Reading.Months.{total_in, years_totals, annual_in, next_in}
use Rattle.laws.specs.Least.{least}
use Rattle.batch.specs.Bytes.{number_at, signed_of}
use Rattle.batch.specs.Batch.{month_in, count_in, offset_at, length_at, end_at, begins_at, participant_at, rows_at, figures_behind, figures_at, too_short}
use Rattle.batch.specs.Batch.{misplaced, first_misplaced, not_following, is_before, wrong_length, wrong_part, first_wrong, refused_if, form_of}
use Rattle.book.specs.Call.{first_refused, batch_says}
use Rattle.book.specs.Account.{after_parts, part_answer}
use Rattle.book.specs.Reading.Decisions.{part_decision, with_parts}
use Rattle.figures.specs.History.{newest_first, decides, answers, happened, happened_to}
use Rattle.figures.specs.Batches.{Batches}

pub batches : Batches
unfolding decide larger sum_of leap length_in length_of first_day holding month_of day_of_month is_september in_annual_days is_first_october
    largest_total largest_at_least annual_amount day_charge exceeds_tolerance exceeds_each call_is_made checked wrong_count all_within out_of_range
    minimum_of calls_of_admission admitted_file annual_totals annual_amount_of annual_answer annual_file largest in_places keep open_calls cover_of
    shortfall_of slots_opened calls_opened firm_raised takes_effect firm_opened next_opened shortfall_opened opened_file counts_through cover_through
    cover_on emptied_on outside_amounts outside_months check_due deposited settlement_calls settled_answer settle_answer calls_settled settled_file
    file_statement total_here total_at with_total totals_from fresh_book file_at with_file sum_of_counts if_numbered if_admitted file_answer
    file_after opened_if_admitted open_day open_days answer applied step run base_in firm_from open_on called_in calls_in firm_in open_in before
    opening_shortfall days_since count_short sum_charges charged_in accrued_in settlement_answer own_causes own_answer own_statement calls_below
    decision with_call events_of mine today_of with_days admitted_in leaving_in role_in last_lodged released_since left_at position_in lodged_where
    released_where cover_in deposited_in total_in years_totals annual_in next_in least number_at signed_of month_in count_in offset_at length_at
    end_at begins_at participant_at rows_at figures_behind figures_at too_short misplaced first_misplaced not_following is_before wrong_length
    wrong_part first_wrong refused_if form_of first_refused batch_says after_parts part_answer part_decision with_parts newest_first decides answers
    happened happened_to
batches =
    record {
      one = refl;
      two = refl;
      second-refused = refl;
      first-refused = refl;
      both-refused = refl;
      pair-order = refl;
      pair-order-64 = refl;
      participant-64 = refl;
      participant-255 = refl;
      participant-63 = refl;
      second-participant-64 = refl;
      participant-63-admitted = refl;
      month-p-1 = refl;
      month-259 = refl;
      month-3 = refl;
      rows-0 = refl;
      rows-4 = refl;
      rows-5 = refl;
      rows-16 = refl;
      rows-17 = refl;
      second-rows-4 = refl;
      rows-1 = refl;
      figure-largest = refl;
      figure-above = refl;
      figure-least = refl;
      figure-below = refl;
      second-figure-above = refl;
      fifth-call = refl;
      fifth-covered = refl;
      fourth-call = refl;
      fourth-made = refl;
      settle-1-before-12 = refl;
      settle-2-before-12 = refl;
      settle-12-before-10 = refl;
      settle-10-before-11 = refl;
      settle-11-before-13 = refl;
      form-20-before-1 = refl;
      form-21-before-1 = refl;
      form-22-before-1 = refl;
      another-file = refl;
      two_made = refl;
      one-made = refl;
      none_made = refl;
      refused-made = refl;
      deposited-made = refl;
      not-deposited-made = refl;
      last-free-day = refl;
      firm = refl;
      second-firm = refl;
      refused-firm = refl;
      recorded = refl;
      first-happened = refl;
      second-happened = refl;
      other-happened = refl;
      happened-today = refl;
      in-pair-order = refl;
      none-happened = refl;
      book-one = refl;
      book-two = refl;
      book-second-refused = refl;
      book-first-refused = refl;
      book-participant-64 = refl;
      book-participant-63 = refl;
      book-month-p-1 = refl;
      book-rows-0 = refl;
      book-rows-4 = refl;
      book-rows-16 = refl;
      book-rows-17 = refl;
      book-figure-above = refl;
      book-fifth-call = refl;
      book-22-before-1 = refl;
      book-two-made = refl;
      book-one-made = refl;
      book-refused-made = refl;
      book-firm = refl;
      book-recorded = refl;
      book-as-before = refl;
    }
