-- Facts about extracts, computed from the definitions: of a history with two participants, of a batch, of lines and of a session.
-- Assumes nothing.
use mathlib.Core.Path.{◌≡◌, refl}
use mathlib.Core.Bool.{true, false}
use mathlib.Core.List.{List, [], ◌∷◌, ◌++◌}
use Prim.Native.Nat.{ℕ}
use lib.IntN.{ℤ, pos, negsuc}
use Rattle.std.specs.Prelude.{Some, None, replicate}
use Rattle.laws.specs.Causes.{decide}
use Rattle.laws.specs.Integers.{larger, sum_of}
use Rattle.laws.specs.Least.{least}
use Rattle.words.specs.Text.{text}
use Rattle.words.specs.Bytes.{same, each, digit}
use Rattle.words.specs.Numerals.{natural, value_from, natural_of}
use Rattle.calendar.specs.Civil.{leap, length_in, length_of, first_day, holding, month_of, day_of_month, is_september, in_annual_days, is_first_october}
use Rattle.manual.specs.Largest.{largest_total, largest_at_least}
use Rattle.manual.specs.Check.{exceeds_tolerance, exceeds_each, call_is_made, checked}
use Rattle.manual.specs.Figures.{wrong_count, all_within, out_of_range}
use Rattle.manual.specs.Minimum.{minimum_of}
use Rattle.file.specs.Admit.{calls_of_admission, admitted_file}
use Rattle.file.specs.Calls.{largest, in_places, keep}
use Rattle.file.specs.Position.{counts_through, cover_through, cover_on, emptied_on, outside_amounts}
use Rattle.file.specs.declared.Position.TheVariants.{Cash}
use Rattle.file.specs.Settle.{outside_months, check_due}
use Rattle.batch.specs.Bytes.{number_at, signed_of}
use Rattle.batch.specs.Batch.{month_in, count_in, offset_at, length_at, end_at, begins_at, participant_at, rows_at, figures_behind, figures_at, too_short}
use Rattle.batch.specs.Batch.{misplaced, first_misplaced, not_following, is_before, wrong_length, wrong_part, first_wrong, refused_if, form_of}
use Rattle.book.specs.Call.{Call, on, admit, lodge, settle, advance, statement, batch, first_refused, batch_says}
use Rattle.book.specs.Rule.{old_rule, new_rule, MadeCall, under}
use Rattle.book.specs.Reading.Calls.{base_in, firm_from, open_on, called_in, calls_in, firm_in, open_in}
use Rattle.book.specs.Reading.Decisions.{settlement_answer, own_causes, own_answer, own_statement, part_decision, with_parts, decision, with_call, events_of}
use Rattle.book.specs.Reading.Events.{mine, today_of, with_days, admitted_in, leaving_in, role_in}
use Rattle.book.specs.Reading.Holdings.{last_lodged, released_since, left_at, position_in, lodged_where, released_where, cover_in, deposited_in}
use Rattle.book.specs.Reading.Months.{total_in, years_totals, annual_in, next_in}
use Rattle.journal.specs.declared.Request.{Request}
use Rattle.printing.specs.Decimals.{numeral, decimal, integer, spaced, joined}
use Rattle.printing.specs.Lines.{call_words, printed}
use Rattle.answering.specs.Asked.{call, fresh, nothing, role_retired, batch_bytes}
use Rattle.answering.specs.Session.{rule_behind, book_of}
use Rattle.book.specs.Account.{fresh_answer, fresh_book, answer, applied, step, file_at, with_file, if_numbered, if_admitted, file_answer, file_after}
use Rattle.extract.specs.Extract.{own_part, own_calls, extract_of}
use Rattle.extract.specs.Lines.{named_by, stands_for, own_line, commented, behind_call, line_with, extracted_line, title_text, title_line, titled}
use Rattle.extract.specs.Asks.{own_asks, own_session}

-- ---- a history, the newest call first: two admitted under the old rule, who lodge cash, a question, a refused admission, and two days opened

abbrev pub two_lodge : List MadeCall
two_lodge =
    under new_rule (advance 3 2)
    ∷ under new_rule (on 1 (admit 3))
    ∷ under new_rule (statement 0)
    ∷ under new_rule (on 1 (lodge 0 (Cash 200)))
    ∷ under new_rule (on 0 (lodge 0 (Cash 100)))
    ∷ under old_rule (on 1 (admit 3))
    ∷ under old_rule (on 0 (admit 1))
    ∷ []

-- "P's own accepted calls .. and the days opened, and nothing of any other participant"
pub histories :
    (extract_of 0 0 two_lodge
    ≡ under new_rule (advance 3 2) ∷ under new_rule (on 0 (lodge 0 (Cash 100))) ∷ under old_rule (on 0 (admit 1)) ∷ [])
    × (extract_of 1 0 two_lodge
    ≡ under new_rule (advance 3 2) ∷ under new_rule (on 1 (lodge 0 (Cash 200))) ∷ under old_rule (on 1 (admit 3)) ∷ [])
    × (extract_of 2 0 two_lodge ≡ under new_rule (advance 3 2) ∷ [])
    -- an advance to a day that has passed is refused
    × (extract_of 0 5 (under new_rule (advance 4 1) ∷ []) ≡ [])
unfolding extract_of own_calls decision with_call events_of own_causes own_answer decide mine today_of with_days admitted_in leaving_in
    position_in last_lodged released_since left_at lodged_where released_where emptied_on outside_amounts own_statement
histories = (refl, refl, refl, refl)

-- ---- a batch of month 0: 100 of participant 0, and 1, −1, −256, 0 and 300 of participant 1

abbrev pub hundred : List ℕ
hundred = 100 ∷ 0 ∷ 0 ∷ 0 ∷ 0 ∷ 0 ∷ 0 ∷ 0 ∷ replicate 32 0

abbrev pub two_parts : List ℕ
two_parts =
    (0 ∷ 0 ∷ 2 ∷ 0
    ∷ 20 ∷ 0 ∷ 0 ∷ 0 ∷ 42 ∷ 0 ∷ 0 ∷ 0
    ∷ 62 ∷ 0 ∷ 0 ∷ 0 ∷ 42 ∷ 0 ∷ 0 ∷ 0
    ∷ 0 ∷ 5 ∷ [])
    ++ hundred
    ++ (1 ∷ 5
    ∷ 1 ∷ 0 ∷ 0 ∷ 0 ∷ 0 ∷ 0 ∷ 0 ∷ 0
    ∷ 255 ∷ 255 ∷ 255 ∷ 255 ∷ 255 ∷ 255 ∷ 255 ∷ 255
    ∷ 0 ∷ 255 ∷ 255 ∷ 255 ∷ 255 ∷ 255 ∷ 255 ∷ 255
    ∷ 0 ∷ 0 ∷ 0 ∷ 0 ∷ 0 ∷ 0 ∷ 0 ∷ 0
    ∷ 44 ∷ 1 ∷ 0 ∷ 0 ∷ 0 ∷ 0 ∷ 0 ∷ 0 ∷ [])

abbrev pub five_figures : List ℤ
five_figures = pos 1 ∷ negsuc 0 ∷ negsuc 255 ∷ pos 0 ∷ pos 300 ∷ []

-- Day 60 is 1 March 2020, when January, month 0, is P − 2.
abbrev pub producers : List MadeCall
producers = under new_rule (on 1 (admit 3)) ∷ under new_rule (on 0 (admit 3)) ∷ []

pub parts : (own_part 0 two_parts ≡ Some 0) × (own_part 1 two_parts ≡ Some 1) × (own_part 5 two_parts ≡ None) × (own_part 0 [] ≡ None)
unfolding own_part least number_at month_in count_in offset_at length_at end_at begins_at participant_at rows_at too_short misplaced
    first_misplaced not_following is_before wrong_length wrong_part first_wrong refused_if form_of
parts = (refl, refl, refl, refl)

-- "a batch is its settlement .. where a part of it is P's", under the rule that it was made under; a refused one is nothing.
abbrev pub settled_1 : Call
settled_1 = on 1 (settle 0 five_figures)

pub batches :
    (extract_of 1 60 (under old_rule (batch two_parts) ∷ producers) ≡ under old_rule settled_1 ∷ under new_rule (on 1 (admit 3)) ∷ [])
    × (extract_of 2 60 (under new_rule (batch two_parts) ∷ producers) ≡ [])
    × (extract_of 0 60 (under new_rule (batch two_parts) ∷ under new_rule (on 0 (admit 3)) ∷ []) ≡ under new_rule (on 0 (admit 3)) ∷ [])
unfolding extract_of own_calls decision with_call events_of own_causes own_answer decide mine today_of with_days admitted_in leaving_in
    own_part least number_at signed_of month_in count_in offset_at length_at end_at begins_at participant_at rows_at figures_behind figures_at too_short
    misplaced first_misplaced not_following is_before wrong_length wrong_part first_wrong refused_if form_of first_refused batch_says part_decision
    with_parts larger sum_of leap length_in length_of first_day holding month_of day_of_month is_september in_annual_days is_first_october largest_total
    largest_at_least exceeds_tolerance exceeds_each call_is_made checked wrong_count all_within out_of_range minimum_of largest in_places keep
    counts_through cover_through cover_on emptied_on outside_amounts outside_months check_due base_in firm_from open_on called_in calls_in firm_in
    open_in settlement_answer own_statement role_in last_lodged released_since left_at position_in lodged_where released_where cover_in deposited_in
    total_in years_totals annual_in next_in
batches = (refl, refl, refl)

-- ---- lines

-- The bytes of the batch as numbers in a row, with more behind them.
abbrev pub row_of : List ℕ → List ℤ
row_of [] = pos 7 ∷ []
row_of (b ∷ file) = pos b ∷ row_of file

pub lines :
    -- "in their numeric form with their references"
    (extracted_line 3 (Request.Admit 3 5) [] [] ≡ text "admit 3 5\n")
    × (extracted_line 3 (Request.LodgeCash 3 0 2500) [] (text "receipt 4711") ≡ text "lodge 3 0 cash 2500 # receipt 4711\n")
    × (extracted_line 3 (Request.Settle 3 (record { 0 = 16 }) 2) (pos 5 ∷ negsuc 4 ∷ pos 9 ∷ []) [] ≡ text "settle 3 16 5 -5\n")
    -- "the advances as they stand in the journal, `fresh` and `role-retired` where they stand"
    × (extracted_line 3 (Request.Advance (record { 0 = 63 }) 99) [] [] ≡ text "advance 63 99\n")
    × (extracted_line 3 (Request.Fresh (record { 0 = 366 })) [] (text "begun") ≡ text "fresh 366 # begun\n")
    × (extracted_line 3 Request.RoleRetired [] [] ≡ text "role-retired\n")
    -- "nothing of any other participant"
    × (extracted_line 3 (Request.Admit 4 5) [] (text "receipt 1") ≡ [])
    × (extracted_line 3 (Request.Delete 2) [] [] ≡ [])
    × (extracted_line 3 (Request.Statement 3) [] [] ≡ [])
    × (extracted_line 3 Request.Calls [] [] ≡ [])
    × (title_line 7 ≡ text "# extract of participant 7\n")
unfolding extracted_line own_line line_with behind_call commented printed call_words joined spaced decimal numeral integer title_text title_line
lines = (refl, refl, refl, refl, refl, refl, refl, refl, refl, refl, refl)

-- "a batch is its settlement `settle P MONTH FIGURE..` where a part of it is P's"
pub batch-lines :
    (extracted_line 1 (Request.Batch 104) (row_of two_parts) (text "month 0") ≡ text "settle 1 0 1 -1 -256 0 300 # month 0\n")
    × (extracted_line 0 (Request.Batch 104) (row_of two_parts) [] ≡ text "settle 0 0 100 0 0 0 0\n")
    × (extracted_line 5 (Request.Batch 104) (row_of two_parts) (text "month 0") ≡ [])
    -- a file with a byte too many or too few is no batch
    × (extracted_line 1 (Request.Batch 105) (row_of two_parts) [] ≡ [])
    × (extracted_line 1 (Request.Batch 103) (row_of two_parts) [] ≡ [])
unfolding extracted_line own_line line_with behind_call commented printed call_words joined spaced decimal numeral integer batch_bytes own_part least
    number_at signed_of month_in count_in offset_at length_at end_at begins_at participant_at rows_at figures_behind figures_at too_short misplaced
    first_misplaced not_following is_before wrong_length wrong_part first_wrong refused_if form_of
batch-lines = (refl, refl, refl, refl, refl)

-- ---- whose a line is

pub whose :
    (named_by (Request.Release 6 0 1) ≡ Some 6)
    × (named_by (Request.Batch 104) ≡ None)
    × (named_by (Request.Statement 6) ≡ None)
    × (stands_for 6 (Request.Annual 6) ≡ true)
    × (stands_for 6 (Request.Annual 7) ≡ false)
    × (stands_for 6 (Request.Statement 6) ≡ true)
    × (stands_for 6 (Request.Statement 7) ≡ false)
    × (stands_for 6 Request.Nothing ≡ true)
    × (stands_for 6 (Request.Batch 104) ≡ false)
    × (stands_for 6 Request.Calls ≡ false)
whose = (refl, refl, refl, refl, refl, refl, refl, refl, refl, refl)

pub titles :
    (titled (text "# extract of participant 7") ≡ Some 7)
    × (titled (text "# extract of participant 63") ≡ Some 63)
    × (titled (text "# extract of participant") ≡ None)
    × (titled (text "# extract of participant ") ≡ None)
    × (titled (text "# extract of participant 7 ") ≡ None)
    × (titled (text "fresh 0") ≡ None)
    × (titled [] ≡ None)
unfolding titled same natural_of natural each digit value_from
titles = (refl, refl, refl, refl, refl, refl, refl)

-- ---- a session, its newest line first

pub session :
    own_session 0
    (nothing ∷ call (statement 0) ∷ call (on 1 (admit 3)) ∷ role_retired ∷ call (on 0 (admit 6)) ∷ call (on 0 (admit 1)) ∷ fresh 29220 ∷ fresh 5 ∷ [])
    ≡ role_retired ∷ call (on 0 (admit 1)) ∷ fresh 5 ∷ []
unfolding own_session own_asks own_calls rule_behind book_of fresh_answer fresh_book answer applied step file_at with_file
    if_numbered if_admitted file_answer file_after
    decide admitted_file calls_of_admission minimum_of
session = refl
