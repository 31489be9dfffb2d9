-- "`ledger --chart P JOURNAL > p.svg`: cover and firm amount as steps over the days, charged days shaded, calls marked with their last free day; a
-- legend, dates on the axis, legible in print. One for the market: the sum of shortfalls over the days." The texts of the picture's pieces.
-- Assumes nothing.
use Rattle.std.specs.Prelude.{ℕ, zero, suc, ◌+◌, ◌-◌, ◌*◌, ◌/◌, max, Bool, cond, ◌&&◌, List, [], ◌++◌, leb, ltb, eqb, Option, Some, None}
use Rattle.words.specs.Text.{text}
use Rattle.printing.specs.Decimals.{decimal}
use Rattle.printing.specs.Columns.{fixed}
use Rattle.printing.specs.Dates.{date_text}
use Rattle.chart.specs.declared.Scale.{Scale}
use Rattle.chart.specs.declared.Title.{Title}
use Rattle.chart.specs.declared.Title.TheVariants.{Participant, Market}
use Rattle.chart.specs.declared.Line.{Line}
use Rattle.chart.specs.declared.Line.TheVariants.{Firm, Cover, Shortfalls}
use Rattle.chart.specs.Scale.{days_shown, last_shown, x_of, x_end, top_of, y_of}
use Rattle.chart.specs.Marks.{placed, line_look}
use Rattle.chart.specs.Ticks.{ticks}

-- ---- what stands around the plot

-- The beginning of the picture, and its white ground. With 96 to an inch its width is 271 mm, that of a page of A4 laid across.
unfoldable pub opening : List ℕ
opening =
    text "<svg xmlns='http://www.w3.org/2000/svg' viewBox='0 0 1140 520' width='1026' height='468' font-family='sans-serif' font-size='14'>\n"
    ++ text "<rect width='1140' height='520' fill='white'/>\n"

-- What the picture shows, of whom.
unfoldable pub subject : Title → List ℕ
subject (Participant p) = text "Participant " ++ decimal p ++ text ": firm amount and cover, "
subject Market = text "Market: sum of shortfalls, "

-- .. with the first and the last day of the axis.
unfoldable pub title_text : Title → Scale → List ℕ
title_text t s =
    text "<text x='130' y='30' font-size='20'>"
    ++ subject t
    ++ date_text s.first.0
    ++ text " to "
    ++ date_text (last_shown s)
    ++ text "</text>\n"

-- A line across the plot at so many quarters of its height, and the amount in euros that this is.
unfoldable pub grid_line : Scale → ℕ → List ℕ
grid_line s i =
    text "<path d='M130 "
    ++ decimal (420 - 90 * i)
    ++ text "h960' stroke='#cccccc'/><text x='122' y='"
    ++ decimal (425 - 90 * i)
    ++ text "' text-anchor='end'>"
    ++ fixed 2 (i * top_of s.most / 4)
    ++ text "</text>\n"

-- The first n of these lines.
unfoldable pub grid : ℕ → Scale → List ℕ
grid zero s = []
grid (suc n) s = grid n s ++ grid_line s n

-- The left side and the floor of the plot, and the unit of the amounts.
unfoldable pub axes : List ℕ
axes =
    text "<path d='M130 60v360h960' fill='none' stroke='#333333'/>\n"
    ++ text "<text x='122' y='42' text-anchor='end'>EUR</text>\n"

-- A legend's line at a place, with its name.
unfoldable pub line_key : List ℕ → Line → List ℕ → List ℕ
line_key from line rest = text "<path d='M" ++ from ++ text " 485h40' " ++ line_look line ++ rest

-- The legend of a participant's picture.
unfoldable pub participant_legend : List ℕ
participant_legend =
    line_key (text "130") Firm (text "/><text x='178' y='490'>firm amount</text>\n")
    ++ line_key (text "310") Cover (text "/><text x='358' y='490'>cover</text>\n")
    ++ text "<rect x='450' y='475' width='40' height='20' fill='#000000' fill-opacity='0.13'/>"
    ++ text "<text x='498' y='490'>charged days</text>\n"
    ++ text "<path d='M650 489l-5-9h10zh40m0-5v10' fill='#b35900' stroke='#b35900'/>"
    ++ text "<text x='698' y='490'>call, to the end of its last free day</text>\n"

-- The legend below the plot.
unfoldable pub legend : Title → List ℕ
legend (Participant p) = participant_legend
legend Market = line_key (text "130") Shortfalls (text "/><text x='178' y='490'>sum of shortfalls</text>\n")

-- All that comes before the pieces of the days.
unfoldable pub head : Title → Scale → List ℕ
head t s = opening ++ title_text t s ++ grid 5 s ++ axes ++ ticks 960 s ++ legend t

unfoldable pub foot : List ℕ
foot = text "</svg>\n"

-- ---- "charged days shaded"

-- Whether a day from FROM to TO is on the axis.
unfoldable pub seen : Scale → ℕ → ℕ → Bool
seen s from to = leb from to && (leb s.first.0 to && ltb from (s.first.0 + days_shown s))

-- The area of these days over the height of the plot, one unit wide at least, so that one day of many years is seen. It is clear enough that the lines
-- behind it are seen.
unfoldable pub area : Scale → ℕ → ℕ → List ℕ
area s from to =
    placed (text "<rect x='") (x_of s from)
    ++ placed (text "' y='60' width='") (max (x_end s to - x_of s from) 10)
    ++ text "' height='360' fill='#000000' fill-opacity='0.13'/>\n"

-- .. and nothing where none of them is on the axis.
unfoldable pub shade : Scale → ℕ → ℕ → List ℕ
shade s from to = cond (seen s from to) (area s from to) []

-- ---- "cover and firm amount as steps over the days"

-- A path begins,
unfoldable pub steps_begun : Line → List ℕ
steps_begun line = text "<path " ++ line_look line ++ text " d='"

-- with its first point at the beginning of the first day; a later day whose amount differs from the one before has a step at its beginning,
unfoldable pub step : Scale → ℕ → Option ℕ → ℕ → List ℕ
step s d None a = placed (text "M") (x_of s d) ++ placed (text " ") (y_of s a)
step s d (Some b) a = cond (eqb b a) [] (placed (text "H") (x_of s d) ++ placed (text "V") (y_of s a))

-- and it ends at the end of the last day.
unfoldable pub steps_ended : Scale → ℕ → List ℕ
steps_ended s last = placed (text "H") (x_end s last) ++ text "'/>\n"

-- ---- "calls marked with their last free day"

-- The stroke at the end of the last free day; a call that is still open has none, since its last free day lies behind the axis.
unfoldable pub last_stroke : Scale → ℕ → List ℕ
last_stroke s last = cond (ltb last (s.first.0 + days_shown s)) (text "m0-5v10") []

-- A triangle that points at the day on which a call was made and at its amount, a line at this height to the end of its last free day, and the stroke
-- there; its words are shown where a reader points at it.
unfoldable pub call_mark : Scale → ℕ → ℕ → ℕ → List ℕ
call_mark s made a last =
    placed (text "<path d='M") (x_of s made)
    ++ placed (text " ") (y_of s a)
    ++ placed (text "l-5-9h10zH") (x_end s last)
    ++ last_stroke s last
    ++ text "' fill='#b35900' stroke='#b35900'><title>called "
    ++ fixed 2 a
    ++ text ", free until "
    ++ date_text last
    ++ text "</title></path>\n"
