-- A day as people write it: 2021-10-01.
-- Assumes nothing.
use Rattle.std.specs.Prelude.{ℕ, List, [], ◌∷◌, ◌++◌, Option, Some, None}
use Rattle.calendar.specs.Dates.{date_of}
use Rattle.calendar.specs.declared.date.Date.{Date}
use Rattle.printing.specs.Columns.{digits}

-- The year, the month and the day of the month, with a stroke between each two; nothing for what is no day of the calendar.
abbrev pub dated_text : Option Date → List ℕ
dated_text (Some x) = digits 4 x.year ++ (45 ∷ digits 2 x.month) ++ (45 ∷ digits 2 x.day)
dated_text None = []

-- The date of a day.
unfoldable pub date_text : ℕ → List ℕ
date_text d = dated_text (date_of d)
