-- Texts of the report, computed by the definitions.
-- Assumes nothing.
use mathlib.Core.Path.{◌≡◌, refl, ap}
use mathlib.Core.List.{◌++◌}
use Rattle.calendar.specs.DateLaws.{date_of-day_of_date, october-2021}
use Rattle.words.specs.Text.{text}
use Rattle.file.specs.Answer.{stated, decide}
use Rattle.book.specs.Account.{fresh_book, file_at, if_numbered, if_admitted, answer}
use Rattle.journal.specs.Names.{role_names}
use Rattle.printing.specs.Decimals.{numeral, decimal, spaced, joined}
use Rattle.printing.specs.Columns.{padded, digits, fixed}
use Rattle.printing.specs.Dates.{dated_text, date_text}
use Rattle.report.specs.Table.{in_columns, table_line, heading, role_text, line_of, row, rows, admitted_below, admitted_count, title_line, report_text}

-- Amounts and charges: a whole number, less than a whole, a tenth with its zero, nothing.
pub amounts :
    (fixed 2 2000000 ≡ text "20000.00")
    × (fixed 2 5 ≡ text "0.05")
    × (fixed 2 110 ≡ text "1.10")
    × (fixed 5 500000000 ≡ text "5000.00000")
    × (fixed 5 0 ≡ text "0.00000")
unfolding fixed digits decimal numeral
amounts = (refl, refl, refl, refl, refl)

-- A longer text stands in full.
pub columns : (padded 5 (text "role") ≡ text " role") × (padded 4 (text "role") ≡ text "role") × (padded 3 (text "role") ≡ text "role")
unfolding padded
columns = (refl, refl, refl)

-- 1 October 2021 is day 639.
pub date : date_text 639 ≡ text "2021-10-01"
unfolding date_text digits
date = ap dated_text (date_of-day_of_date 2021 10 1 (record { 0 = 639 }) october-2021)

-- A trader's line.
pub line : line_of 7 2 (stated 2000000 1500000 500000 12 500000000 1)
    ≡ text "          7           trader          20000.00          15000.00           5000.00           12            5000.00000\n"
unfolding line_of table_line in_columns padded joined spaced role_text role_names fixed digits decimal numeral
line = refl

-- The report of a book with no participants: the title and the heading.
pub none : report_text (fresh_book 639)
    ≡ text "report 639 2021-10-01 0\n"
    ++ text "participant             role          firm EUR         cover EUR     shortfall EUR days charged            charge EUR\n"
unfolding report_text title_line heading table_line in_columns padded joined spaced rows row line_of admitted_count admitted_below fresh_book file_at answer
    if_numbered if_admitted decide decimal numeral
none = rw date
