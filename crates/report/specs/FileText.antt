-- Issue "The ledger for its five users": what `file P` answers, a participant's file for people.
-- Assumes nothing.
use Rattle.std.specs.Prelude.{ℕ, zero, suc, ◌+◌, ◌-◌, Bool, cond, List, [], ◌∷◌, ◌++◌, length, replicate, ℤ, pos, negsuc}
use Rattle.words.specs.Text.{text}
use Rattle.calendar.specs.Civil.{year_of, place_of, month_of}
use Rattle.file.specs.declared.File.{File}
use Rattle.file.specs.declared.Position.{Position}
use Rattle.file.specs.declared.Position.TheVariants.{Empty, Cash, Letter}
use Rattle.file.specs.declared.Slot.{Slot}
use Rattle.file.specs.declared.OpenCall.{OpenCall}
use Rattle.file.specs.declared.NextAmount.{NextAmount}
use Rattle.file.specs.Position.{position_at}
use Rattle.file.specs.Totals.{Total, none, total, total_at}
use Rattle.file.specs.Fields.{open_calls, cover_of, shortfall_of}
use Rattle.layout.specs.Book.{Book}
use Rattle.book.specs.Account.{file_at}
use Rattle.printing.specs.Decimals.{decimal, joined}
use Rattle.printing.specs.Columns.{padded, digits, fixed}
use Rattle.printing.specs.Dates.{date_text}
use Rattle.report.specs.Table.{role_text}

-- A label: its text, with blanks on its right up to 17 bytes.
unfoldable pub label : List ℕ → List ℕ
label t = t ++ replicate (17 - length t) 32

-- A figure behind its label: 7 bytes that say its kind, blanks for most, and the figure in a column of a width.
unfoldable pub figure : List ℕ → List ℕ → ℕ → List ℕ → List ℕ
figure name kind w t = label name ++ kind ++ padded w t

-- The kind of a figure that says none.
abbrev pub no_kind : List ℕ
no_kind = text "       "

-- A line of text, and one of a figure, each behind its label.
unfoldable pub said_line : List ℕ → List ℕ → List ℕ
said_line name t = label name ++ t ++ (10 ∷ [])

unfoldable pub figure_line : List ℕ → ℕ → List ℕ → List ℕ
figure_line name w t = figure name no_kind w t ++ (10 ∷ [])

-- An amount of cents in euros: its last digit before the point stands in byte 38 of the line ..
unfoldable pub amount_line : List ℕ → ℕ → List ℕ
amount_line name c = figure_line name 17 (fixed 2 c)

-- .. and so does a count's last digit.
unfoldable pub count_line : List ℕ → ℕ → List ℕ
count_line name n = figure_line name 14 (decimal n)

-- A charge of mills in euros, of which a cent has 1,000: its last digit before the point stands there too.
unfoldable pub charge_line : List ℕ → ℕ → List ℕ
charge_line name m = figure_line name 20 (fixed 5 m)

-- The first line: file P DAY DATE.
unfoldable pub file_title : ℕ → ℕ → List ℕ
file_title p t = joined (text "file" ∷ decimal p ∷ decimal t ∷ date_text t ∷ []) ++ (10 ∷ [])

-- "status is `admitted` or `under deletion`".
unfoldable pub status_text : Bool → List ℕ
status_text leaving = cond leaving (text "under deletion") (text "admitted")

-- What is held at position k: cash, or a letter with its days. "Empty positions have no line".
unfoldable pub position_label : ℕ → List ℕ
position_label k = text "position " ++ decimal k

unfoldable pub position_line : ℕ → Position → List ℕ
position_line k Empty = []
position_line k (Cash a) = figure (position_label k) (text "cash   ") 17 (fixed 2 a) ++ (10 ∷ [])
position_line k (Letter a first last) =
    figure (position_label k) (text "letter ") 17 (fixed 2 a)
    ++ text "  from "
    ++ date_text first.0
    ++ text " to "
    ++ date_text last.0
    ++ (10 ∷ [])

-- The lines of the first n positions.
unfoldable pub position_lines : ℕ → List Slot → List ℕ
position_lines zero slots = []
position_lines (suc n) slots = position_lines n slots ++ position_line n (position_at slots n)

-- An open call with its last free day, and the lines of open calls: "oldest first".
unfoldable pub call_line : OpenCall → List ℕ
call_line c = figure (text "open call") no_kind 17 (fixed 2 c.amount) ++ text "  free until " ++ date_text c.last.0 ++ (10 ∷ [])

unfoldable pub call_lines : List OpenCall → List ℕ
call_lines [] = []
call_lines (c ∷ calls) = call_line c ++ call_lines calls

-- "`next amount` only where it is set".
unfoldable pub next_line : NextAmount → List ℕ
next_line next = cond next.set (amount_line (text "next amount") next.amount) []

-- A month as people write it: 2021-05.
unfoldable pub month_text : ℕ → List ℕ
month_text m = digits 4 (year_of m) ++ (45 ∷ digits 2 (place_of m + 1))

-- Cents in euros, with a minus where they are below zero: -123.45.
unfoldable pub euros_signed : ℤ → List ℕ
euros_signed (pos n) = fixed 2 n
euros_signed (negsuc n) = 45 ∷ fixed 2 (suc n)

-- The total of month m, where it is recorded.
unfoldable pub month_line : ℕ → Total → List ℕ
month_line m none = []
month_line m (total e) = figure_line (text "month " ++ month_text m) 17 (euros_signed e)

-- The lines of the first n months from m on.
unfoldable pub month_lines : (ℕ → Total) → ℕ → ℕ → List ℕ
month_lines look m zero = []
month_lines look m (suc n) = month_lines look m n ++ month_line (m + n) (look (m + n))

-- "for each recorded month of the thirteen from P - 14 to P - 2 (P today's month; none below month 0), the earliest first".
unfoldable pub recorded_lines : File → ℕ → List ℕ
recorded_lines f t = month_lines (total_at f.totals) (month_of t - 14) (month_of t - 1 - (month_of t - 14))

-- The first three lines.
unfoldable pub opening_lines : ℕ → ℕ → File → List ℕ
opening_lines p t f = file_title p t ++ said_line (text "role") (role_text f.role) ++ said_line (text "status") (status_text f.leaving)

-- What is held, what is called and what was recorded.
unfoldable pub entry_lines : ℕ → File → List ℕ
entry_lines t f = position_lines 8 f.slots ++ call_lines (open_calls f) ++ next_line f.next ++ recorded_lines f t

-- The firm amount, the cover on day t and the shortfall.
unfoldable pub standing_lines : ℕ → File → List ℕ
standing_lines t f =
    amount_line (text "firm amount") f.firm
    ++ amount_line (text "cover") (cover_of f t)
    ++ amount_line (text "shortfall") (shortfall_of f t)

-- The days charged, the accrued charge, and how many calls were made.
unfoldable pub charge_lines : File → List ℕ
charge_lines f =
    count_line (text "days charged") f.charged
    ++ charge_line (text "charge") f.accrued
    ++ count_line (text "calls made") f.made

-- The file of participant p on day t.
unfoldable pub lines_of_file : ℕ → ℕ → File → List ℕ
lines_of_file p t f = opening_lines p t f ++ entry_lines t f ++ standing_lines t f ++ charge_lines f

-- What `file P` answers of a book; nothing where the participant isn't admitted.
unfoldable pub file_text : Book → ℕ → List ℕ
file_text b p = cond (file_at b p).admitted (lines_of_file p b.today.0 (file_at b p)) []
