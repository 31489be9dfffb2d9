-- Texts of a participant's file and of the comma-separated values, worked out by hand.
-- Assumes nothing.
use Prim.Native.Nat.{ℕ}
use mathlib.Core.Path.{◌≡◌, refl, ◌∙◌}
use mathlib.Core.Bool.{true, false}
use mathlib.Core.List.{[], ◌∷◌, ◌++◌}
use lib.ListN.{replicate}
use lib.IntN.{pos, negsuc}
use Rattle.calendar.specs.Civil.{month_of, holding, length_of, length_in, leap, day_of_month, first_day}
use Rattle.calendar.specs.DateLaws.{october-2021-month}
use Rattle.calendar.specs.Dates.{date_of}
use Rattle.words.specs.Text.{text}
use Rattle.file.specs.declared.File.{File}
use Rattle.file.specs.declared.Position.TheVariants.{Empty, Cash, Letter}
use Rattle.file.specs.Calls.{call_of}
use Rattle.file.specs.Position.{slot_of, counts_through, cover_through, cover_on}
use Rattle.file.specs.Totals.{no_total, total_of, total_here, total_at}
use Rattle.file.specs.Fields.{set_to, open_calls, cover_of, shortfall_of}
use Rattle.book.specs.Account.{fresh_book, file_at, with_file}
use Rattle.journal.specs.Names.{role_names}
use Rattle.printing.specs.Decimals.{numeral, decimal, spaced, joined}
use Rattle.printing.specs.Columns.{padded, digits, fixed}
use Rattle.printing.specs.Dates.{date_text}
use Rattle.report.specs.Table.{role_text}
use Rattle.report.specs.FileText.{label, figure, said_line, figure_line, amount_line, count_line, charge_line, file_title, status_text}
use Rattle.report.specs.FileText.{position_label, position_line, position_lines, call_line, call_lines, next_line, month_text, euros_signed, month_line, month_lines}
use Rattle.report.specs.FileText.{recorded_lines, opening_lines, entry_lines, standing_lines, charge_lines, lines_of_file, file_text}
use Rattle.report.specs.Csv.{behind_commas, csv_line, csv_heading, csv_values, csv_row, csv_rows, report_csv}

-- ---- dates: days 366, 639, 649 and 730

first-january : date_text 366 ≡ text "2021-01-01"
unfolding date_text date_of month_of holding length_of length_in leap day_of_month first_day digits
first-january = refl

first-october : date_text 639 ≡ text "2021-10-01"
unfolding date_text date_of month_of holding length_of length_in leap day_of_month first_day digits
first-october = refl

eleventh-october : date_text 649 ≡ text "2021-10-11"
unfolding date_text date_of month_of holding length_of length_in leap day_of_month first_day digits
eleventh-october = refl

last-december : date_text 730 ≡ text "2021-12-31"
unfolding date_text date_of month_of holding length_of length_in leap day_of_month first_day digits
last-december = refl

-- Amounts that may be below zero, and a month.
pub signed :
    (euros_signed (pos 12345) ≡ text "123.45")
    × (euros_signed (negsuc 12344) ≡ text "-123.45")
    × (euros_signed (negsuc 0) ≡ text "-0.01")
    × (euros_signed (pos 0) ≡ text "0.00")
    × (month_text 16 ≡ text "2021-05")
    × (month_text 959 ≡ text "2099-12")
unfolding euros_signed month_text fixed digits decimal numeral
signed = (refl, refl, refl, refl, refl, refl)

-- ---- a supplier's file on 1 October 2021, day 639

-- It holds cash, and a letter of days 366 to 730; a call is open until day 649, and a next amount is set. Of months 14 and 16, March and May 2021,
-- totals are recorded, at their places of the ring, 14 and 0; and of June 2020 (month 5, place 5), which is before P - 14, August 2020.
abbrev supplier : File
supplier =
    record {
      admitted = true;
      leaving = false;
      role = 0;
      firm = 2000000;
      slots = slot_of (Cash 2500000) ∷ slot_of Empty ∷ slot_of (Letter 1000000 (record { 0 = 366 }) (record { 0 = 730 })) ∷ replicate 5 (slot_of Empty);
      calls = call_of 2000000 649 ∷ replicate 3 (call_of 0 0);
      count = 1;
      next = set_to 3000000;
      totals =
          total_of 16 (pos 12345678)
          ∷ (replicate 4 no_total ++ total_of 5 (pos 77) ∷ replicate 8 no_total ++ total_of 14 (negsuc 12344) ∷ no_total ∷ []);
      charged = 3;
      accrued = 123456789;
      made = 2;
    }

-- 25,000.00 of cash and 10,000.00 of the letter; so nothing is short of 20,000.00.
pub covers : (cover_of supplier 639 ≡ 3500000) × (shortfall_of supplier 639 ≡ 0)
unfolding cover_of shortfall_of cover_on cover_through counts_through
covers = (refl, refl)

pub of_opening : opening_lines 3 639 supplier
    ≡ text "file 3 639 2021-10-01\n" ++ text "role             supplier\n" ++ text "status           admitted\n"
unfolding opening_lines file_title said_line label status_text role_text role_names joined spaced decimal numeral
of_opening = rw first-october refl

pub of_positions : position_lines 8 supplier.slots
    ≡ text "position 0       cash            25000.00\n"
    ++ text "position 2       letter          10000.00  from 2021-01-01 to 2021-12-31\n"
unfolding position_lines position_line position_label figure label padded fixed digits decimal numeral
of_positions = rw (first-january, last-december) refl

pub of_calls : call_lines (open_calls supplier) ≡ text "open call                        20000.00  free until 2021-10-11\n"
unfolding call_lines call_line open_calls figure label padded fixed digits decimal numeral
of_calls = rw eleventh-october refl

pub of_next : next_line supplier.next ≡ text "next amount                      30000.00\n"
unfolding next_line amount_line figure_line figure label padded fixed digits decimal numeral
of_next = refl

pub of_months : recorded_lines supplier 639
    ≡ text "month 2021-03                     -123.45\n"
    ++ text "month 2021-05                   123456.78\n"
unfolding recorded_lines month_lines month_line month_text euros_signed total_at total_here figure_line figure label padded fixed digits decimal numeral
of_months = rw october-2021-month refl

standing-of : (f : File) (c d : ℕ) → cover_of f 639 ≡ c → shortfall_of f 639 ≡ d
    → standing_lines 639 f ≡ amount_line (text "firm amount") f.firm ++ amount_line (text "cover") c ++ amount_line (text "shortfall") d
unfolding standing_lines
standing-of f c d e h = rw (e, h) refl

amounts : amount_line (text "firm amount") 2000000 ++ amount_line (text "cover") 3500000 ++ amount_line (text "shortfall") 0
    ≡ text "firm amount                      20000.00\n"
    ++ text "cover                            35000.00\n"
    ++ text "shortfall                            0.00\n"
unfolding amount_line figure_line figure label padded fixed digits decimal numeral
amounts = refl

pub of_standing : standing_lines 639 supplier
    ≡ text "firm amount                      20000.00\n"
    ++ text "cover                            35000.00\n"
    ++ text "shortfall                            0.00\n"
of_standing = standing-of supplier 3500000 0 covers.0 covers.1 ∙ amounts

pub of_charges : charge_lines supplier
    ≡ text "days charged                         3\n"
    ++ text "charge                            1234.56789\n"
    ++ text "calls made                           2\n"
unfolding charge_lines count_line charge_line figure_line figure label padded fixed digits decimal numeral
of_charges = refl

-- The whole file is these parts, one behind the other.
pub of_supplier : lines_of_file 3 639 supplier
    ≡ opening_lines 3 639 supplier
    ++ (position_lines 8 supplier.slots ++ call_lines (open_calls supplier) ++ next_line supplier.next ++ recorded_lines supplier 639)
    ++ standing_lines 639 supplier
    ++ charge_lines supplier
unfolding lines_of_file entry_lines
of_supplier = refl

-- In a book it is the file of the participant that has it; a participant that isn't admitted has none.
pub in-book :
    (file_text (with_file (fresh_book 639) 3 supplier) 3 ≡ lines_of_file 3 639 supplier)
    × (file_text (with_file (fresh_book 639) 3 supplier) 2 ≡ [])
    × (file_text (with_file (fresh_book 639) 3 supplier) 64 ≡ [])
unfolding file_text with_file fresh_book file_at
in-book = (refl, refl, refl)

-- ---- the same book as comma-separated values

pub of_none : report_csv (fresh_book 639) ≡ text "participant,role,firm,cover,shortfall,days_charged,charge\n"
unfolding report_csv csv_heading csv_rows csv_row fresh_book file_at
of_none = refl

values-of : (p c d : ℕ) (f : File) → cover_of f 639 ≡ c → shortfall_of f 639 ≡ d
    → csv_values p 639 f
    ≡ csv_line (decimal p) (role_text f.role ∷ fixed 2 f.firm ∷ fixed 2 c ∷ fixed 2 d ∷ decimal f.charged ∷ fixed 5 f.accrued ∷ [])
unfolding csv_values
values-of p c d f e h = rw (e, h) refl

values : csv_line (decimal 3) (role_text 0 ∷ fixed 2 2000000 ∷ fixed 2 3500000 ∷ fixed 2 0 ∷ decimal 3 ∷ fixed 5 123456789 ∷ [])
    ≡ text "3,supplier,20000.00,35000.00,0.00,3,1234.56789\n"
unfolding csv_line behind_commas role_text role_names fixed digits decimal numeral
values = refl

pub of_values : csv_values 3 639 supplier ≡ text "3,supplier,20000.00,35000.00,0.00,3,1234.56789\n"
of_values = values-of 3 3500000 0 supplier covers.0 covers.1 ∙ values

pub of_one : report_csv (with_file (fresh_book 639) 3 supplier)
    ≡ text "participant,role,firm,cover,shortfall,days_charged,charge\n" ++ text "3,supplier,20000.00,35000.00,0.00,3,1234.56789\n"
unfolding report_csv csv_heading csv_rows csv_row fresh_book with_file file_at
of_one = rw of_values refl
