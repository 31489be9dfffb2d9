-- Days and months as words of a line.
-- Assumes nothing.
use Rattle.std.specs.Prelude.{ℕ, Bool, cond, ◌&&◌, List, eqb, length, take, drop, get_or, Option, Some, None}
use Rattle.calendar.specs.Dates.{is_date, month_number, day_of_date}
use Rattle.calendar.specs.declared.Day.{Day}
use Rattle.words.specs.Numerals.{natural, value, natural_of}

-- The n bytes of a word from a place on.
abbrev pub part : ℕ → ℕ → List ℕ → List ℕ
part from n w = take n (drop from w)

-- "A day may also be written 2021-10-01 .. exactly so": four digits, a minus, two digits, a minus, two digits.
unfoldable pub is_dated : List ℕ → Bool
is_dated w =
    eqb (length w) 10
    && (eqb (get_or w 4 0) 45 && (eqb (get_or w 7 0) 45 && (natural (part 0 4 w) && (natural (part 5 2 w) && natural (part 8 2 w)))))

-- "and a month 2021-10: exactly so": four digits, a minus, two digits.
unfoldable pub is_monthed : List ℕ → Bool
is_monthed w = eqb (length w) 7 && (eqb (get_or w 4 0) 45 && (natural (part 0 4 w) && natural (part 5 2 w)))

-- The number of a date's day, if there is such a date.
unfoldable pub numbered : Option Day → Option ℕ
numbered (Some d) = Some d.0
numbered None = None

-- "and a real date from 2020 to 2099, else the line is an error".
unfoldable pub dated_day : List ℕ → Option ℕ
dated_day w = cond (is_dated w) (numbered (day_of_date (value (part 0 4 w)) (value (part 5 2 w)) (value (part 8 2 w)))) None

-- A month is one from 2020 to 2099 if its first day is.
unfoldable pub numbered_month : ℕ → ℕ → Option ℕ
numbered_month y m = cond (is_date y m 1) (Some (month_number y m)) None

unfoldable pub dated_month : List ℕ → Option ℕ
dated_month w = cond (is_monthed w) (numbered_month (value (part 0 4 w)) (value (part 5 2 w))) None

-- A day: its number or its date.
unfoldable pub day_in : List ℕ → Option ℕ
day_in w = cond (natural w) (natural_of w) (dated_day w)

-- A month: its number, or its year and its place there.
unfoldable pub month_in : List ℕ → Option ℕ
month_in w = cond (natural w) (natural_of w) (dated_month w)
