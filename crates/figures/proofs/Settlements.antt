-- A settlement and the annual run at their bounds: each fact is computed from the definitions.
-- Assumes nothing.
use mathlib.Core.Path.{refl}
use Rattle.laws.specs.Causes.{decide}
use Rattle.laws.specs.Integers.{larger, sum_of}
use Rattle.calendar.specs.Civil.{is_september}
use Rattle.manual.specs.Largest.{largest_total, largest_at_least}
use Rattle.manual.specs.Annual.{annual_amount}
use Rattle.manual.specs.Charge.{day_charge}
use Rattle.manual.specs.Check.{exceeds_tolerance, exceeds_each, call_is_made, checked}
use Rattle.manual.specs.Figures.{wrong_count, all_within, out_of_range}
use Rattle.manual.specs.Minimum.{minimum_of}
use Rattle.file.specs.Calls.{largest, keep}
use Rattle.file.specs.Settle.{outside_months, check_due}
use Rattle.file.specs.Totals.{totals_from}
use Rattle.figures.specs.Settlements.{Settlements}

pub settlements : Settlements
unfolding decide larger sum_of is_september largest_total largest_at_least annual_amount day_charge exceeds_tolerance exceeds_each call_is_made checked wrong_count
    all_within out_of_range minimum_of largest keep outside_months check_due totals_from
settlements =
    record {
      month-p-15 = refl;
      month-p-14 = refl;
      month-p-2 = refl;
      month-p-1 = refl;
      no-month-yet = refl;
      first-month = refl;
      due = refl;
      not-due-p-3 = refl;
      not-due-p-1 = refl;
      not-due-september = refl;
      due-august = refl;
      figures-4 = refl;
      figures-5 = refl;
      figures-16 = refl;
      figures-17 = refl;
      figure-largest = refl;
      figure-above = refl;
      figure-least = refl;
      figure-below = refl;
      last-figure-above = refl;
      sum = refl;
      above-cover = refl;
      at-cover = refl;
      credit = refl;
      tolerance-at-20-percent = refl;
      tolerance-below = refl;
      tolerance-uneven = refl;
      tolerance-uneven-above = refl;
      at-firm = refl;
      above-firm = refl;
      at-first-call = refl;
      above-first-call = refl;
      at-last-call = refl;
      exceeds-no-call = refl;
      within-tolerance = refl;
      asked = refl;
      not-called = refl;
      says-called = refl;
      says-covered = refl;
      amounts = refl;
      call-amount = refl;
      call-last = refl;
      largest-itself = refl;
      largest-first = refl;
      largest-last = refl;
      kept = refl;
      july-to-june = refl;
      january-to-june = refl;
      a-whole-year = refl;
      recorded-only = refl;
      none-recorded = refl;
      larger-one = refl;
      largest-in-front = refl;
      largest-at-end = refl;
      largest-credit = refl;
      annual-below = refl;
      annual-at = refl;
      annual-above = refl;
      annual-none = refl;
      annual-nothing = refl;
      annual-credit = refl;
      minimums = refl;
      charge-below = refl;
      no-cause = refl;
      first-cause = refl;
      second-cause = refl;
    }
