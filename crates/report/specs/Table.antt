-- 'The journal': "report    a table of all admitted participants for people".
-- Assumes nothing.
use Rattle.std.specs.Prelude.{ℕ, zero, suc, ◌+◌, cond, List, [], ◌∷◌, ◌++◌, get_or}
use Rattle.words.specs.Text.{text}
use Rattle.file.specs.Answer.{Answer, refused, done, called, covered, recorded, annual, days_opened, stated, counted, batched, refused_pair, deletion}
use Rattle.layout.specs.Book.{Book}
use Rattle.book.specs.Rule.{new_rule}
use Rattle.book.specs.Account.{answer, file_at}
use Rattle.book.specs.Call.{statement}
use Rattle.journal.specs.Names.{role_names}
use Rattle.printing.specs.Decimals.{decimal, joined}
use Rattle.printing.specs.Columns.{padded, fixed}
use Rattle.printing.specs.Dates.{date_text}

-- The widths of the columns: participant, role, firm amount, cover, shortfall, days charged, accrued charge.
abbrev pub widths : List ℕ
widths = 11 ∷ 16 ∷ 17 ∷ 17 ∷ 17 ∷ 12 ∷ 21 ∷ []

-- Texts, each in its column.
unfoldable pub in_columns : List ℕ → List (List ℕ) → List (List ℕ)
in_columns [] ts = []
in_columns (w ∷ ws) [] = []
in_columns (w ∷ ws) (t ∷ ts) = padded w t ∷ in_columns ws ts

-- A line of the table: the columns with a blank between each two.
unfoldable pub table_line : List (List ℕ) → List ℕ
table_line ts = joined (in_columns widths ts) ++ (10 ∷ [])

-- The line above the others.
unfoldable pub heading : List ℕ
heading =
    table_line
    (text "participant"
    ∷ text "role"
    ∷ text "firm EUR"
    ∷ text "cover EUR"
    ∷ text "shortfall EUR"
    ∷ text "days charged"
    ∷ text "charge EUR"
    ∷ [])

-- The name of a role; nothing for a number that is no role.
unfoldable pub role_text : ℕ → List ℕ
role_text r = get_or role_names r []

-- The line of participant p with a role, whose statement is given: amounts in euros with their cents, the charge in euros with its mills, of which a
-- cent has 1,000. The count of calls made has no column. A participant that has no statement has no line.
unfoldable pub line_of : ℕ → ℕ → Answer → List ℕ
line_of p r (stated f c s d a m) =
    table_line (decimal p ∷ role_text r ∷ fixed 2 f ∷ fixed 2 c ∷ fixed 2 s ∷ decimal d ∷ fixed 5 a ∷ [])
line_of p r (refused n) = []
line_of p r done = []
line_of p r (called e asked last) = []
line_of p r (covered e) = []
line_of p r (recorded e) = []
line_of p r (annual a n) = []
line_of p r (days_opened n) = []
line_of p r (counted n) = []
line_of p r (batched n) = []
line_of p r (refused_pair n i) = []
line_of p r (deletion a calls) = []

unfoldable pub row : Book → ℕ → List ℕ
row b p = line_of p (file_at b p).role (answer new_rule b (statement p))

-- The lines of the first n participants.
unfoldable pub rows : ℕ → Book → List ℕ
rows zero b = []
rows (suc n) b = rows n b ++ row b n

-- How many of the first n participants are admitted, and how many of all.
unfoldable pub admitted_below : ℕ → Book → ℕ
admitted_below zero b = 0
admitted_below (suc n) b = admitted_below n b + cond (file_at b n).admitted 1 0

unfoldable pub admitted_count : Book → ℕ
admitted_count b = admitted_below 64 b

-- report DAY DATE COUNT
unfoldable pub title_line : Book → List ℕ
title_line b =
    joined (text "report" ∷ decimal b.today.0 ∷ date_text b.today.0 ∷ decimal (admitted_count b) ∷ []) ++ (10 ∷ [])

-- The whole table.
unfoldable pub report_text : Book → List ℕ
report_text b = title_line b ++ heading ++ rows 64 b
