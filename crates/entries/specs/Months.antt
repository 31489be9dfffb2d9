-- A month as people write it: 2021-10.
-- Assumes nothing.
use Rattle.std.specs.Prelude.{ℕ, ◌+◌, cond, List, [], ◌∷◌, ◌++◌, ltb}
use Rattle.calendar.specs.Civil.{months, year_of, place_of}
use Rattle.printing.specs.Columns.{digits}

-- The year and the month of the year, January being 1, with a stroke between the two; nothing for what is no month of the calendar.
unfoldable pub month_text : ℕ → List ℕ
month_text m = cond (ltb m months) (digits 4 (year_of m) ++ (45 ∷ digits 2 (place_of m + 1))) []
