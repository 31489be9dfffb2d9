-- The itemised statement in text: "from, to, days, firm amount, cover, shortfall, charge a day, charge of the run; then the sum, beside the statement's
-- figures", in columns or with commas.
-- Assumes nothing.
use Rattle.std.specs.Prelude.{ℕ, cond, List, [], ◌∷◌, ◌++◌, Option, Some, None}
use Rattle.words.specs.Text.{text}
use Rattle.file.specs.declared.File.{File}
use Rattle.printing.specs.Decimals.{decimal, joined}
use Rattle.printing.specs.Columns.{padded, fixed}
use Rattle.printing.specs.Dates.{date_text}
use Rattle.items.specs.declared.Charged.{Charged}
use Rattle.items.specs.declared.Run.{Run}
use Rattle.items.specs.declared.Items.{Items}
use Rattle.items.specs.declared.Form.{Form}
use Rattle.items.specs.declared.Form.TheVariants.{Columns, Csv}
use Rattle.items.specs.Items.{extends, days_of, shortfall_of, charge_a_day, charge_of}
use Rattle.items.specs.State.{in_word, charged_on, all_days, all_mills}

-- Texts with a comma before each.
unfoldable pub listed : List (List ℕ) → List ℕ
listed [] = []
listed (t ∷ ts) = (44 ∷ t) ++ listed ts

-- Texts with a comma between each two.
unfoldable pub comma_joined : List (List ℕ) → List ℕ
comma_joined [] = []
comma_joined (t ∷ ts) = t ++ listed ts

-- The line of an item: its dates, its days, then amounts in euros with their cents and charges in euros with their mills, of which a cent has 1,000.
-- In columns each of these is padded; a charge that no word of 64 bits holds is the largest that one does.
unfoldable pub line : Form → Run → List ℕ
line Columns r =
    joined
    (date_text r.from.0
    ∷ date_text r.to.0
    ∷ padded 6 (decimal (days_of r))
    ∷ padded 17 (fixed 2 r.firm)
    ∷ padded 17 (fixed 2 r.cover)
    ∷ padded 17 (fixed 2 (shortfall_of r))
    ∷ padded 17 (fixed 5 (charge_a_day r))
    ∷ padded 21 (fixed 5 (in_word (charge_of r)))
    ∷ [])
    ++ (10 ∷ [])
line Csv r =
    comma_joined
    (date_text r.from.0
    ∷ date_text r.to.0
    ∷ decimal (days_of r)
    ∷ fixed 2 r.firm
    ∷ fixed 2 r.cover
    ∷ fixed 2 (shortfall_of r)
    ∷ fixed 5 (charge_a_day r)
    ∷ fixed 5 (in_word (charge_of r))
    ∷ [])
    ++ (10 ∷ [])

-- The line above the others.
unfoldable pub heading : Form → List ℕ
heading Columns =
    joined
    (padded 10 (text "from")
    ∷ padded 10 (text "to")
    ∷ padded 6 (text "days")
    ∷ padded 17 (text "firm EUR")
    ∷ padded 17 (text "cover EUR")
    ∷ padded 17 (text "shortfall EUR")
    ∷ padded 17 (text "charge a day EUR")
    ∷ padded 21 (text "charge EUR")
    ∷ [])
    ++ (10 ∷ [])
heading Csv = text "from,to,days,firm,cover,shortfall,charge_a_day,charge\n"

-- The lines of items, the oldest first ..
unfoldable pub lines : Form → List Run → List ℕ
lines form [] = []
lines form (r ∷ items) = lines form items ++ line form r

-- .. and of all but the latest, which a day to come may make longer.
unfoldable pub ended_lines : Form → List Run → List ℕ
ended_lines form [] = []
ended_lines form (r ∷ items) = lines form items

-- The line of the latest item, where there is one.
abbrev pub line_if : Form → Option Run → List ℕ
line_if form None = []
line_if form (Some r) = line form r

unfoldable pub last_line : Form → Items → List ℕ
last_line form s = line_if form s.run

-- What one more charged day has written: the line of the item that it ends, by the latest item.
abbrev pub line_ended : Form → Charged → Option Run → List ℕ
line_ended form c None = []
line_ended form c (Some r) = cond (extends c r) [] (line form r)

-- .. what a day has that was opened, which charged a participant or did not.
abbrev pub text_if : Form → Option Charged → Items → List ℕ
text_if form None s = []
text_if form (Some c) s = line_ended form c s.run

unfoldable pub text_after : Form → File → ℕ → Items → List ℕ
text_after form f d s = text_if form (charged_on f d) s

-- A line of sums, behind a label as wide as the two dates: the days and the charge in their columns.
unfoldable pub sum_line : List ℕ → ℕ → ℕ → List ℕ
sum_line label days mills = joined (label ∷ padded 6 (decimal days) ∷ padded 93 (fixed 5 mills) ∷ []) ++ (10 ∷ [])

-- "then the sum, beside the statement's figures": those of the items, and those of the file, if it is an admitted participant's.
unfoldable pub sums_text : Items → File → List ℕ
sums_text s f =
    sum_line (text "sum                  ") (all_days s) (all_mills s)
    ++ cond f.admitted (sum_line (text "statement            ") f.charged f.accrued) []
