-- Lines of each kind, and who has none, computed by the definitions.
-- Assumes nothing.
use mathlib.Core.Path.{◌≡◌, refl, ap}
use mathlib.Core.Bool.{true, false}
use mathlib.Core.List.{List, [], ◌∷◌, ◌++◌}
use Prim.Native.Nat.{ℕ}
use lib.ListN.{replicate}
use Rattle.std.specs.Prelude.{pos}
use Rattle.calendar.specs.Civil.{leap, length_in, length_of, first_day, month_of, is_first_october}
use Rattle.calendar.specs.Laws.{month_of-is}
use Rattle.std.proofs.Common.{lit≤, lit<}
use Rattle.calendar.specs.Dates.{is_date, month_number, day_of_date}
use Rattle.calendar.specs.DateLaws.{date_of-day_of_date, october-2021, october-2021-first}
use Rattle.calendar.specs.declared.Day.{Day}
use Rattle.calendar.specs.declared.Month.{Month}
use Rattle.words.specs.Text.{text}
use Rattle.manual.specs.Minimum.{minimum_of}
use Rattle.file.specs.declared.File.{File}
use Rattle.file.specs.declared.OpenCall.{OpenCall}
use Rattle.file.specs.declared.Position.TheVariants.{Empty, Cash, Letter}
use Rattle.file.specs.Position.{slot_of}
use Rattle.file.specs.Calls.{call_of}
use Rattle.file.specs.Totals.{no_total}
use Rattle.file.specs.Fields.{open_calls, set_to}
use Rattle.file.specs.Opening.{takes_effect}
use Rattle.file.specs.Admit.{no_file}
use Rattle.journal.specs.Names.{role_names}
use Rattle.journal.specs.declared.Request.{Request}
use Rattle.printing.specs.declared.Answer.{Answer}
use Rattle.printing.specs.Decimals.{numeral, decimal, spaced, joined}
use Rattle.printing.specs.Columns.{padded, digits, fixed}
use Rattle.printing.specs.Dates.{dated_text, date_text}
use Rattle.report.specs.Table.{role_text}
use Rattle.entries.specs.Months.{month_text}
use Rattle.entries.specs.Entries.{labelled, placed, euros, origin_text, admitted_text, called_text, kind_text, lodged_text, released_text, next_set_text, next_taken_text, leaving_text, lapsed_text, entry_text}
use Rattle.entries.specs.Lines.{reference_text, entry_line, lines_of}
use Rattle.entries.specs.Openings.{lapse_of, lapses_below, taken_of, opened_entries, opened_lines}
use Rattle.entries.specs.Calls.{is_of, call_on, admission_entries, done_entries, settled_entries, deletion_entries, answer_entries, called_entries, called_lines, newest_call, call_entries, batch_entries, batch_lines}

-- Some days.

abbrev day : ℕ → Day
day n = record { 0 = n }

abbrev month : ℕ → Month
month n = record { 0 = n }

january : date_text 366 ≡ text "2021-01-01"
unfolding date_text digits day_of_date is_date month_number first_day length_of length_in leap
january = ap dated_text (date_of-day_of_date 2021 1 1 (day 366) refl)

eleventh : date_text 376 ≡ text "2021-01-11"
unfolding date_text digits day_of_date is_date month_number first_day length_of length_in leap
eleventh = ap dated_text (date_of-day_of_date 2021 1 11 (day 376) refl)

october : date_text 639 ≡ text "2021-10-01"
unfolding date_text digits
october = ap dated_text (date_of-day_of_date 2021 10 1 (day 639) october-2021)

-- Months: the first, October 2021, the last, and none behind it.
pub months :
    (month_text 0 ≡ text "2020-01") × (month_text 21 ≡ text "2021-10") × (month_text 959 ≡ text "2099-12") × (month_text 960 ≡ [])
unfolding month_text digits
months = (refl, refl, refl, refl)

-- An admission on 1 January 2021 of a supplier, whose minimum is called.
pub admission : called_lines 366 3 (Request.Admit 3 0) Answer.Done (text "registry 12")
    ≡ text "2021-01-01  admitted            supplier\n"
    ++ text "2021-01-01  called                       20000.00  free until 2021-01-11, admission  # registry 12\n"
unfolding called_lines called_entries is_of answer_entries done_entries admission_entries minimum_of call_on lines_of entry_line entry_text
    admitted_text called_text labelled euros padded fixed digits decimal numeral origin_text reference_text role_text role_names
admission = rw (january, eleventh)

-- A producer has no minimum, and a text without a comment no reference.
pub no_minimum : called_lines 366 3 (Request.Admit 3 3) Answer.Done [] ≡ text "2021-01-01  admitted            producer\n"
unfolding called_lines called_entries is_of answer_entries done_entries admission_entries minimum_of lines_of entry_line entry_text admitted_text labelled
    reference_text role_text role_names
no_minimum = rw january

-- Cash, and a letter with its days.
pub lodged :
    (called_lines 366 3 (Request.LodgeCash 3 0 25000000) Answer.Done [] ≡ text "2021-01-01  lodged at 0                 250000.00  cash\n")
    × (called_lines 376 3 (Request.LodgeLetter 3 1 10000001 (day 366) (day 639)) Answer.Done (text "receipt 4711")
    ≡ text "2021-01-11  lodged at 1                 100000.01  letter from 2021-01-01 to 2021-10-01  # receipt 4711\n")
unfolding called_lines called_entries is_of answer_entries done_entries lines_of entry_line entry_text lodged_text kind_text labelled placed joined spaced euros
    padded fixed digits decimal numeral reference_text
lodged = (rw january, rw (january, eleventh, october))

-- A release.
pub released : called_lines 639 3 (Request.Release 3 7 5000000) Answer.Done [] ≡ text "2021-10-01  released at 7                50000.00\n"
unfolding called_lines called_entries is_of answer_entries done_entries lines_of entry_line entry_text released_text labelled placed joined spaced euros padded
    fixed digits decimal numeral reference_text
released = rw october

-- A settlement of November 2020 that calls, and one that doesn't.
pub settled :
    (called_lines 366 3 (Request.Settle 3 (month 10) 2) (Answer.Called 12345678 2345678 (day 376)) []
    ≡ text "2021-01-01  called                      123456.78  free until 2021-01-11, settlement of 2020-11\n")
    × (called_lines 366 3 (Request.Settle 3 (month 10) 2) (Answer.Covered (pos 12345678)) [] ≡ [])
    × (called_lines 366 3 (Request.Settle 3 (month 10) 2) (Answer.Recorded (pos 12345678)) [] ≡ [])
unfolding called_lines called_entries is_of answer_entries settled_entries lines_of entry_line entry_text called_text labelled euros padded fixed digits decimal
    numeral origin_text month_text reference_text
settled = (rw (january, eleventh), refl, refl)

-- An annual run.
pub annual : called_lines 366 3 (Request.Annual 3) (Answer.Annual 3000000 12) (text "by hand")
    ≡ text "2021-01-01  next amount                  30000.00  annual run  # by hand\n"
unfolding called_lines called_entries is_of answer_entries lines_of entry_line entry_text next_set_text labelled euros padded fixed digits decimal numeral
    reference_text
annual = rw january

-- A deletion that calls, and one that doesn't.
pub deleted :
    (called_lines 366 3 (Request.Delete 3) (Answer.Deletion 4000000 true) (text "left")
    ≡ text "2021-01-01  called                       40000.00  free until 2021-01-11, deletion\n" ++ text "2021-01-01  under deletion  # left\n")
    × (called_lines 366 3 (Request.Delete 3) (Answer.Deletion 0 false) [] ≡ text "2021-01-01  under deletion\n")
unfolding called_lines called_entries is_of answer_entries deletion_entries call_on lines_of entry_line entry_text called_text leaving_text labelled euros padded
    fixed digits decimal numeral origin_text reference_text
deleted = (rw (january, eleventh), rw january)

-- A refused call, that of another, and one that changes no file.
pub no_entries :
    (called_lines 366 3 (Request.LodgeCash 3 0 25000000) (Answer.Refused 6) (text "receipt 4711") ≡ [])
    × (called_lines 366 3 (Request.LodgeCash 4 0 25000000) Answer.Done (text "receipt 4711") ≡ [])
    × (called_lines 366 3 (Request.Fresh (day 366)) Answer.Done [] ≡ [])
    × (called_lines 366 3 (Request.Statement 3) (Answer.Statement 0 0 0 0 0 0) [] ≡ [])
unfolding called_lines called_entries is_of answer_entries lines_of
no_entries = (refl, refl, refl, refl)

-- A file with an open call of so much made last, or none: its calls made are as many.
abbrev with_calls : List OpenCall → ℕ → ℕ → File
with_calls calls count made =
    record {
      admitted = true;
      leaving = false;
      role = 0;
      firm = 0;
      slots = replicate 8 (slot_of Empty);
      calls = calls;
      count = count;
      next = set_to 3000000;
      totals = replicate 16 no_total;
      charged = 0;
      accrued = 0;
      made = made;
    }

abbrev one_call : File
one_call = with_calls (call_of 2000000 376 ∷ call_of 0 0 ∷ call_of 0 0 ∷ call_of 0 0 ∷ []) 1 1

abbrev two_calls : File
two_calls = with_calls (call_of 2000000 376 ∷ call_of 12345678 639 ∷ call_of 0 0 ∷ call_of 0 0 ∷ []) 2 2

-- A batch of November 2020 that calls, the newest of two open calls, and one that doesn't.
pub batched :
    (batch_lines 366 (month 10) one_call two_calls (text "run 7")
    ≡ text "2021-01-01  called                      123456.78  free until 2021-10-01, settlement of 2020-11  # run 7\n")
    × (batch_lines 366 (month 10) two_calls two_calls (text "run 7") ≡ [])
unfolding batch_lines batch_entries call_entries newest_call open_calls lines_of entry_line entry_text called_text labelled euros padded fixed digits decimal
    numeral origin_text month_text reference_text
batched = (rw (january, october), refl)

-- A file with a letter to 30 September 2021 at position 1, one to 1 October at 2, and cash at 3; and a next amount.
abbrev with_letters : File
with_letters =
    record {
      admitted = true;
      leaving = false;
      role = 0;
      firm = 0;
      slots =
          slot_of Empty
          ∷ slot_of (Letter 10000000 (day 366) (day 638))
          ∷ slot_of (Letter 20000000 (day 366) (day 639))
          ∷ slot_of (Cash 30000000)
          ∷ replicate 4 (slot_of Empty);
      calls = replicate 4 (call_of 0 0);
      count = 0;
      next = set_to 3000000;
      totals = replicate 16 no_total;
      charged = 0;
      accrued = 0;
      made = 0;
    }

-- 1 October 2021, as it is opened: the first letter lapses, and the next amount takes effect. A participant that isn't admitted has no line.
pub opened :
    (opened_lines with_letters 639
    ≡ text "2021-10-01  lapsed at 1                 100000.00\n" ++ text "2021-10-01  next amount                  30000.00  took effect\n")
    × (opened_lines no_file 639 ≡ [])
unfolding opened_lines opened_entries lapses_below lapse_of taken_of takes_effect lines_of entry_line entry_text lapsed_text next_taken_text labelled placed joined
    spaced euros padded fixed digits decimal numeral reference_text
opened = (rw (october-2021-first, october), refl)

-- The day before neither does.

september-month : month_of 638 ≡ 20
unfolding first_day length_of length_in leap
september-month = month_of-is 20 638 (lit< tt) (lit≤ tt) (lit< tt)

september-last : is_first_october 638 ≡ false
unfolding is_first_october
september-last = rw september-month

pub opened_before : opened_lines with_letters 638 ≡ []
unfolding opened_lines opened_entries lapses_below lapse_of taken_of takes_effect lines_of
opened_before = rw september-last
