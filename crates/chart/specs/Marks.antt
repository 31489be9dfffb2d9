-- The parts of an SVG text: a place behind a text, and how a line and an area look.
-- Assumes nothing.
use Rattle.std.specs.Prelude.{ℕ, List, ◌++◌}
use Rattle.words.specs.Text.{text}
use Rattle.printing.specs.Columns.{fixed}
use Rattle.chart.specs.declared.Line.{Line}
use Rattle.chart.specs.declared.Line.TheVariants.{Firm, Cover, Shortfalls}

-- A text with a place in tenths behind it.
unfoldable pub placed : List ℕ → ℕ → List ℕ
placed t n = t ++ fixed 1 n

-- The look of a line: "legible in print", so the lines differ in more than their colours.
unfoldable pub line_look : Line → List ℕ
line_look Firm = text "fill='none' stroke='#1a1a1a' stroke-width='2'"
line_look Cover = text "fill='none' stroke='#2b7bba' stroke-width='2' stroke-dasharray='6 3'"
line_look Shortfalls = text "fill='none' stroke='#8b1a1a' stroke-width='2'"
