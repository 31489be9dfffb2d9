-- Calls counted by participant, at every bound: each fact is computed from the definitions, but what holds of every history and the bounds of a file.
-- Assumes nothing.
use Prim.Native.Nat.{ℕ, ◌+◌, ◌*◌, ◌≤◌}
use mathlib.Core.Path.{refl}
use mathlib.Core.Bool.{Bool, cond}
use mathlib.Core.List.{List, [], ◌∷◌, ◌++◌}
use native.Mathlib.Omega.{arith}
use lib.Dec.{ltb}
use lib.ListN.{length, length-append}
use lib.IntN.{nat_abs}
use Rattle.laws.specs.Causes.{decide}
use Rattle.laws.specs.Cases.{split}
use Rattle.laws.specs.Integers.{larger, sum_of}
use Rattle.laws.specs.Least.{least}
use Rattle.laws.specs.Lists.{all_replicate}
use Rattle.calendar.specs.Civil.{leap, length_in, length_of, first_day, holding, month_of, day_of_month, is_september, in_annual_days, is_first_october}
use Rattle.calendar.specs.Civil.{is_deletion_month, in_deletion_months}
use Rattle.manual.specs.Largest.{largest_total, largest_at_least}
use Rattle.manual.specs.Annual.{annual_amount}
use Rattle.manual.specs.Deletion.{deletion_amount}
use Rattle.manual.specs.Charge.{day_charge}
use Rattle.manual.specs.Check.{exceeds_tolerance, exceeds_each, call_is_made, checked}
use Rattle.manual.specs.Figures.{wrong_count, all_within, out_of_range}
use Rattle.manual.specs.Minimum.{minimum_of}
use Rattle.file.specs.declared.MonthTotal.{MonthTotal}
use Rattle.file.specs.declared.OpenCall.{OpenCall}
use Rattle.file.specs.declared.Position.TheVariants.{Empty}
use Rattle.file.specs.declared.Slot.{Slot}
use Rattle.file.specs.Admit.{calls_of_admission, admitted_file}
use Rattle.file.specs.Annual.{annual_totals, annual_amount_of, annual_answer, annual_file}
use Rattle.file.specs.Calls.{largest, call_of, in_places, keep}
use Rattle.file.specs.Deletion.{deletion_totals, last_three, deletion_amount_of, deletion_calls, deletion_answer, calls_deleted, deleted_file}
use Rattle.file.specs.Fields.{open_calls, cover_of, shortfall_of}
use Rattle.file.specs.KeepsPositions.{no-call-sound}
use Rattle.file.specs.Lodge.{lodge_answer, lodged_file}
use Rattle.file.specs.Opening.{slots_opened, calls_opened, firm_raised, takes_effect, firm_opened, next_opened, shortfall_opened, opened_file}
use Rattle.file.specs.Position.{slot_of, counts_through, cover_through, cover_on, emptied_on, outside_amounts}
use Rattle.file.specs.Release.{release_floor, slots_left, release_answer, released_file}
use Rattle.file.specs.Settle.{outside_months, check_due, deposited, settlement_calls, settled_answer, settle_answer, calls_settled, settled_file}
use Rattle.file.specs.Sound.{Sound, SoundCall, SoundPosition, total_bound}
use Rattle.file.specs.Statement.{file_statement}
use Rattle.file.specs.Totals.{no_total, total_here, total_at, with_total, totals_from}
use Rattle.batch.specs.Bytes.{number_at, signed_of}
use Rattle.batch.specs.Batch.{month_in, count_in, offset_at, length_at, end_at, begins_at, participant_at, rows_at, figures_behind, figures_at, too_short}
use Rattle.batch.specs.Batch.{misplaced, first_misplaced, not_following, is_before, wrong_length, wrong_part, first_wrong, refused_if, form_of}
use Rattle.book.specs.Account.{fresh_book, file_at, with_file, sum_of_counts, if_numbered, if_admitted, file_answer, file_after, opened_if_admitted}
use Rattle.book.specs.Account.{open_day, open_days, answer, applied, step, run, after_parts, part_answer}
use Rattle.book.specs.Call.{Act, admit, lodge, release, settle, annual_run, delete, first_refused, batch_says}
use Rattle.book.specs.OneCount.{calls_added, parts_added, added, count_before}
use Rattle.book.specs.Reading.Calls.{base_in, firm_from, open_on, called_in, deletion_called, calls_in, made_in, firm_in, open_in}
use Rattle.book.specs.Reading.Charges.{before, opening_shortfall, days_since, count_short, sum_charges, charged_in, accrued_in}
use Rattle.book.specs.Reading.Decisions.{settlement_answer, own_causes, own_answer, own_statement, calls_below, decision, with_call, events_of}
use Rattle.book.specs.Reading.Decisions.{part_decision, with_parts}
use Rattle.book.specs.Reading.Events.{Own, act, mine, today_of, with_days, admitted_in, leaving_in, role_in}
use Rattle.book.specs.Reading.Holdings.{last_lodged, released_since, left_at, position_in, lodged_where, released_where, cover_in, deposited_in}
use Rattle.book.specs.Reading.Months.{total_in, years_totals, annual_in, totals_before, deletion_in, next_in}
use Rattle.book.proofs.History.Private.{tells-alike, alone}
use Rattle.book.specs.Private.{concerning}
use Rattle.figures.specs.History.{newest_first, in_turn, decides, answers, decides_behind}
use Rattle.figures.specs.Counts.{beside, four_times, counting, Counts}

-- Calls with one more behind them, or none.
one-more : (calls : List OpenCall) (more : Bool) (c : OpenCall)
    → (length calls ≤ length (calls ++ cond more (c ∷ []) [])) × (length (calls ++ cond more (c ∷ []) []) ≤ length calls + 1)
one-more calls more c =
    split more
    (λ e. rw e (omega (arith, length-append calls (c ∷ [])), omega (arith, length-append calls (c ∷ []))))
    (λ e. rw e (omega (arith, length-append calls []), omega (arith, length-append calls [])))

grows : (d : ℕ) (a : Act) (own : List Own) → (made_in own ≤ made_in (act d a ∷ own)) × (made_in (act d a ∷ own) ≤ made_in own + 1)
unfolding calls_in
grows d (admit role) own = one-more (calls_in own) (ltb 0 (minimum_of role)) (call_of (minimum_of role) (d + 10))
grows d (lodge k h) own = (omega arith, omega arith)
grows d (release k a) own = (omega arith, omega arith)
grows d (settle m figures) own = one-more (calls_in own) (called_in d m figures own (calls_in own)) (call_of (nat_abs (sum_of figures)) (d + 10))
grows d annual_run own = (omega arith, omega arith)
grows d delete own = one-more (calls_in own) (deletion_called d own (calls_in own)) (call_of (deletion_in d own) (d + 10))

-- An open call whose last free day is day 10.
open-call-sound : (a : ℕ) → a ≤ 200 → SoundCall (call_of a 10)
open-call-sound a small = record { amount = omega (arith, small); last = omega arith }

-- The file with two open calls is within its bounds where its count is.
within-bounds : (t n : ℕ) → t ≤ 29219 → 2 ≤ n → n ≤ 4 * t + 2 → Sound t (counting n)
unfolding open_calls in_places
within-bounds t n day counted made =
    record {
      day = day;
      slots = all_replicate (λ (x : Slot). SoundPosition x.position) 8 (slot_of Empty) tt;
      calls = (open-call-sound 100 (omega arith), (open-call-sound 200 (omega arith), (no-call-sound, (no-call-sound, tt))));
      count = omega arith;
      places = refl;
      firm = omega arith;
      next = omega arith;
      totals = all_replicate (λ (r : MonthTotal). nat_abs r.total ≤ total_bound) 16 no_total (omega arith);
      charged = omega arith;
      accrued = omega arith;
      counted = counted;
      made = made;
    }

pub counts : Counts
unfolding decide larger sum_of leap length_in length_of first_day holding month_of day_of_month is_september in_annual_days is_first_october
    is_deletion_month in_deletion_months largest_total largest_at_least annual_amount deletion_amount day_charge exceeds_tolerance exceeds_each
    call_is_made checked wrong_count all_within out_of_range minimum_of calls_of_admission admitted_file annual_totals annual_amount_of annual_answer
    annual_file deletion_totals last_three deletion_amount_of deletion_calls deletion_answer calls_deleted deleted_file largest in_places keep
    open_calls cover_of shortfall_of lodge_answer lodged_file release_floor slots_left release_answer released_file slots_opened calls_opened
    firm_raised takes_effect firm_opened next_opened shortfall_opened opened_file counts_through cover_through cover_on emptied_on outside_amounts
    outside_months check_due deposited settlement_calls settled_answer settle_answer calls_settled settled_file file_statement total_here total_at
    with_total totals_from fresh_book file_at with_file sum_of_counts if_numbered if_admitted file_answer file_after opened_if_admitted open_day
    open_days answer applied step run calls_added parts_added added count_before base_in firm_from open_on called_in deletion_called calls_in firm_in
    open_in before opening_shortfall days_since count_short sum_charges charged_in accrued_in settlement_answer own_causes own_answer own_statement
    calls_below decision with_call events_of mine today_of with_days admitted_in leaving_in role_in last_lodged released_since left_at position_in
    lodged_where released_where cover_in deposited_in total_in years_totals annual_in totals_before deletion_in next_in least number_at signed_of
    month_in count_in offset_at length_at end_at begins_at participant_at rows_at figures_behind figures_at too_short misplaced first_misplaced
    not_following is_before wrong_length wrong_part first_wrong refused_if form_of first_refused batch_says after_parts part_answer part_decision
    with_parts concerning newest_first decides decides_behind answers
counts =
    record {
      shown = λ f t. refl;
      in-file-63 = refl;
      in-file-30 = refl;
      role-0 = refl;
      role-2 = refl;
      roles-3-to-5 = refl;
      first-role-1 = refl;
      refused-role-1 = refl;
      admitted-twice = refl;
      admitted-otherwise = refl;
      at-zero = refl;
      above-zero = refl;
      within = refl;
      at-20 = refl;
      at-firm = refl;
      above-firm = refl;
      at-call = refl;
      above-call = refl;
      april-p-3 = refl;
      april-p-2 = refl;
      september-p-2 = refl;
      october-p-2 = refl;
      again-higher = refl;
      again-no-higher = refl;
      refused-settlements = refl;
      fourth = refl;
      fifth = refl;
      fifth-later = refl;
      placed = refl;
      placed-for-none = refl;
      placed-at-call = refl;
      placed-above-call = refl;
      placed-at-firm = refl;
      july-31 = refl;
      august-1 = refl;
      placed-twice = refl;
      placed-fourth = refl;
      placed-fifth = refl;
      placed-later = refl;
      last-free-day = refl;
      day-after = refl;
      on-october = refl;
      since-october = refl;
      book-lodged = refl;
      book-released = refl;
      book-annual-run = refl;
      book-day = refl;
      book-asked = refl;
      book-refused = refl;
      lodge-adds-none = λ d k h own. refl;
      release-adds-none = λ d k a own. refl;
      annual-adds-none = λ d own. refl;
      day-adds-none = λ d own. refl;
      none-or-one = grows;
      both-first = refl;
      both-second = refl;
      one-first = refl;
      one-second = refl;
      refused-batch = refl;
      refused-first = refl;
      refused-second = refl;
      of-0 = refl;
      of-31 = refl;
      of-63 = refl;
      sum-of-three = refl;
      sum-of-none = refl;
      sum-of-all = refl;
      before-three = refl;
      before-batch = refl;
      own-statement = refl;
      book-own-statement = refl;
      other-statement = refl;
      their-sum = refl;
      agree = refl;
      told-alike = tells-alike 60 0 (in_turn [] (beside [])) (in_turn [] (beside four_times)) (omega arith) refl;
      always-alike = tells-alike;
      own-calls = refl;
      told-alone = alone;
      four-and-four = refl;
      below-fewest = λ (s : Sound 10 (counting 1)). absurd (omega (arith, s.counted));
      fewest = within-bounds 10 2 (omega arith) (omega arith) (omega arith);
      most = within-bounds 10 42 (omega arith) (omega arith) (omega arith);
      above-most = λ (s : Sound 10 (counting 43)). absurd (omega (arith, s.made));
      most-on-day-0 = within-bounds 0 2 (omega arith) (omega arith) (omega arith);
      above-on-day-0 = λ (s : Sound 0 (counting 3)). absurd (omega (arith, s.made));
      book-role-0 = refl;
      book-within = refl;
      book-at-20 = refl;
      book-fifth = refl;
      book-placed-at-call = refl;
      book-placed-above-call = refl;
      book-placed-fifth = refl;
      book-day-after = refl;
      book-one-first = refl;
      book-one-second = refl;
      book-refused-second = refl;
      book-of-0 = refl;
      book-of-31 = refl;
      book-of-63 = refl;
      book-sum-of-three = refl;
      book-sum-of-none = refl;
      book-sum-of-all = refl;
    }
