-- The calls at their bounds: each fact is computed from the definitions.
-- Assumes nothing.
use Prim.Native.Nat.{ℕ, ◌≤◌}
use mathlib.Core.Path.{◌≡◌, refl, ap}
use mathlib.Core.List.{List, [], ◌∷◌}
use Rattle.laws.specs.Causes.{decide}
use Rattle.laws.specs.Integers.{larger, sum_of}
use Rattle.calendar.specs.Civil.{leap, length_in, length_of, first_day, holding, month_of, day_of_month, is_september, in_annual_days, is_first_october}
use Rattle.manual.specs.Largest.{largest_total, largest_at_least}
use Rattle.manual.specs.Annual.{annual_amount}
use Rattle.manual.specs.Charge.{day_charge}
use Rattle.manual.specs.Check.{exceeds_tolerance, exceeds_each, call_is_made, checked}
use Rattle.manual.specs.Figures.{wrong_count, all_within, out_of_range}
use Rattle.manual.specs.Minimum.{minimum_of}
use Rattle.file.specs.Calls.{largest, keep}
use Rattle.file.specs.Position.{emptied_on, outside_amounts}
use Rattle.file.specs.Settle.{outside_months, check_due}
use Rattle.file.specs.Totals.{totals_from}
use Rattle.book.specs.Account.{fresh_book, fresh_answer, fresh_book_beside}
use Rattle.book.specs.Reading.Calls.{base_in, firm_from, open_on, called_in, calls_in, firm_in, open_in}
use Rattle.book.specs.Reading.Charges.{before, opening_shortfall, days_since, count_short, sum_charges, charged_in, accrued_in}
use Rattle.book.specs.Reading.Decisions.{settlement_answer, own_causes, own_answer, own_statement, calls_below, decision, with_call, events_of}
use Rattle.book.specs.Reading.Events.{mine, today_of, with_days, admitted_in, leaving_in, role_in}
use Rattle.book.specs.Reading.Holdings.{last_lodged, released_since, left_at, position_in, lodged_where, released_where, cover_in, deposited_in}
use Rattle.book.specs.Reading.Months.{total_in, years_totals, annual_in, next_in}
use Rattle.figures.specs.History.{newest_first, in_turn, decides, answers}
use Rattle.book.specs.Life.{answers_of, decisions_of}
use Rattle.file.specs.Answer.{Answer, done}
use Rattle.book.specs.Call.{Call}
use Rattle.book.specs.Rule.{new_rule, under}
use Rattle.book.proofs.History.Life.{life}
use Rattle.figures.specs.Decisions.{Decisions}

-- The newest of some answers.
unfoldable pub newest : List Answer → Answer
newest [] = done
newest (x ∷ rest) = x

-- What the reading decides, the book answers: the claim about the list with this call.
both : (s : ℕ) (calls : List Call) (c : Call) → s ≤ 29219 → answers s calls c ≡ decides s calls c
unfolding answers decides answers_of decisions_of newest
both s calls c h = ap newest (life s (under new_rule c ∷ in_turn [] calls) h).answers

pub decisions : Decisions
unfolding decide larger sum_of leap length_in length_of first_day holding month_of day_of_month is_september in_annual_days is_first_october
    largest_total largest_at_least annual_amount day_charge exceeds_tolerance exceeds_each call_is_made checked wrong_count all_within out_of_range
    minimum_of largest keep emptied_on outside_amounts outside_months check_due totals_from fresh_book fresh_answer fresh_book_beside base_in
    firm_from open_on called_in calls_in firm_in open_in before opening_shortfall days_since count_short sum_charges charged_in accrued_in
    settlement_answer own_causes own_answer own_statement calls_below decision with_call events_of mine today_of with_days admitted_in leaving_in
    role_in last_lodged released_since left_at position_in lodged_where released_where cover_in deposited_in total_in years_totals annual_in next_in
    newest_first decides
decisions =
    record {
      both = both;
      fresh-last-day = refl;
      fresh-past = refl;
      fresh-on-its-day = refl;
      fresh-beside = refl;
      advance-last-day = refl;
      advance-past = refl;
      advance-back = refl;
      advance-today = refl;
      advance-budget-less = refl;
      advance-budget-equal = refl;
      advance-budget-more = refl;
      advance-none = refl;
      today = refl;
      participant-63 = refl;
      participant-64 = refl;
      admitted-already = refl;
      another = refl;
      role-5 = refl;
      role-6 = refl;
      admit-1-before-4 = refl;
      admit-3-before-4 = refl;
      lodge-participant = refl;
      lodge-not-admitted = refl;
      position-7 = refl;
      position-8 = refl;
      filled = refl;
      other-position = refl;
      letter-last-day = refl;
      letter-lapsed = refl;
      released-whole = refl;
      released-in-part = refl;
      lodge-0 = refl;
      lodge-largest = refl;
      lodge-above = refl;
      lodge-letter-above = refl;
      lodge-nothing = refl;
      letter-backward = refl;
      letter-one-day = refl;
      letter-past = refl;
      letter-until-today = refl;
      letter-until-2099 = refl;
      letter-until-2100 = refl;
      lodge-2-before-5 = refl;
      lodge-5-before-8 = refl;
      lodge-5-before-9 = refl;
      lodge-6-before-8 = refl;
      lodge-6-before-9 = refl;
      lodge-8-before-9 = refl;
      release-participant = refl;
      release-not-admitted = refl;
      release-position-8 = refl;
      release-empty = refl;
      release-lapsed = refl;
      release-0 = refl;
      release-part = refl;
      release-whole = refl;
      release-above = refl;
      release-above-rest = refl;
      release-rest = refl;
      release-letter-part = refl;
      release-letter = refl;
      open-call-left = refl;
      open-call-short = refl;
      firm-left = refl;
      firm-short = refl;
      next-left = refl;
      next-short = refl;
      largest-left = refl;
      largest-short = refl;
      firm-and-call-left = refl;
      firm-and-call-short = refl;
      next-and-call-left = refl;
      next-and-call-short = refl;
      next-replaced-left = refl;
      next-replaced = refl;
      unbegun-short = refl;
      release-2-before-5 = refl;
      release-5-before-7 = refl;
      release-7-before-8 = refl;
      release-8-before-15 = refl;
      release-8-before-16 = refl;
      release-15-before-16 = refl;
      settle-participant = refl;
      settle-not-admitted = refl;
      settle-p-15 = refl;
      settle-p-14 = refl;
      settle-p-2 = refl;
      settle-p-1 = refl;
      settle-4-figures = refl;
      settle-16-figures = refl;
      settle-17-figures = refl;
      settle-figure-largest = refl;
      settle-figure-above = refl;
      settle-september = refl;
      settle-october = refl;
      settle-p-3 = refl;
      settle-credit = refl;
      settle-credit-recorded = refl;
      settle-at-cover = refl;
      settle-within = refl;
      settle-at-20 = refl;
      settle-at-firm = refl;
      settle-above-firm = refl;
      settle-at-call = refl;
      settle-above-call = refl;
      settle-last-open-day = refl;
      fourth-call = refl;
      fifth-call = refl;
      fifth-covered = refl;
      fifth-later = refl;
      settle-2-before-12 = refl;
      settle-12-before-10 = refl;
      settle-12-before-11 = refl;
      settle-10-before-11 = refl;
      settle-11-before-13 = refl;
      annual-participant = refl;
      annual-not-admitted = refl;
      annual-2-before-14 = refl;
      annual-before = refl;
      annual-first-day = refl;
      annual-last-day = refl;
      annual-after = refl;
      annual-window = refl;
      annual-replaced = refl;
      annual-credit = refl;
      annual-not-recorded = refl;
      statement-participant = refl;
      statement-not-admitted = refl;
      last-free-day = refl;
      first-charged-day = refl;
      no-shortfall = refl;
      one-cent-short = refl;
      paid-today = refl;
      day-after-payment = refl;
      letter-covers = refl;
      letter-no-longer = refl;
      not-put-off = refl;
      raised = refl;
      before-october = refl;
      on-october = refl;
      taken-once = refl;
      none_made = refl;
      admission-made = refl;
      settlement-made = refl;
      not_made = refl;
      participant-63-made = refl;
    }
