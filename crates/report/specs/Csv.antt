-- Issue "The ledger for its five users": the report as comma-separated values, for spreadsheets.
-- Assumes nothing.
use Rattle.std.specs.Prelude.{ℕ, zero, suc, cond, List, [], ◌∷◌, ◌++◌}
use Rattle.words.specs.Text.{text}
use Rattle.file.specs.declared.File.{File}
use Rattle.file.specs.Fields.{cover_of, shortfall_of}
use Rattle.layout.specs.Book.{Book}
use Rattle.book.specs.Account.{file_at}
use Rattle.printing.specs.Decimals.{decimal}
use Rattle.printing.specs.Columns.{fixed}
use Rattle.report.specs.Table.{role_text}

-- Texts, each with a comma before it.
unfoldable pub behind_commas : List (List ℕ) → List ℕ
behind_commas [] = []
behind_commas (t ∷ ts) = (44 ∷ t) ++ behind_commas ts

-- A line: its values with a comma between each two. "Lines end with a newline alone."
unfoldable pub csv_line : List ℕ → List (List ℕ) → List ℕ
csv_line t ts = t ++ behind_commas ts ++ (10 ∷ [])

-- The first line: the names of the columns.
unfoldable pub csv_heading : List ℕ
csv_heading = text "participant,role,firm,cover,shortfall,days_charged,charge\n"

-- The line of participant p's file on day t: "amounts with a dot".
unfoldable pub csv_values : ℕ → ℕ → File → List ℕ
csv_values p t f =
    csv_line (decimal p)
    (role_text f.role
    ∷ fixed 2 f.firm
    ∷ fixed 2 (cover_of f t)
    ∷ fixed 2 (shortfall_of f t)
    ∷ decimal f.charged
    ∷ fixed 5 f.accrued
    ∷ [])

-- The line of a participant; none where it isn't admitted.
unfoldable pub csv_row : Book → ℕ → List ℕ
csv_row b p = cond (file_at b p).admitted (csv_values p b.today.0 (file_at b p)) []

-- The lines of the first n participants.
unfoldable pub csv_rows : ℕ → Book → List ℕ
csv_rows zero b = []
csv_rows (suc n) b = csv_rows n b ++ csv_row b n

-- The report of a book: the heading, and a line for each admitted participant.
unfoldable pub report_csv : Book → List ℕ
report_csv b = csv_heading ++ csv_rows 64 b
