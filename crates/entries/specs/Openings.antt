-- The entries of a participant on a day as it is opened, by the file before that.
-- Assumes nothing.
use Rattle.std.specs.Prelude.{ℕ, zero, suc, cond, List, [], ◌∷◌, ◌++◌}
use Rattle.file.specs.declared.File.{File}
use Rattle.file.specs.declared.Position.{Position}
use Rattle.file.specs.Position.{amount_of, lapsed_by, position_at}
use Rattle.file.specs.Opening.{takes_effect}
use Rattle.entries.specs.Lines.{lines_of}
use Rattle.entries.specs.declared.entry.Entry.{Entry}

-- "the day each lapsed": the entry of what stands at place k, where it is a letter whose last day is before day d.
unfoldable pub lapse_of : ℕ → ℕ → Position → List Entry
lapse_of d k p = cond (lapsed_by d p) (Entry.Lapsed k (amount_of p) ∷ []) []

-- Those of the first n positions.
unfoldable pub lapses_below : ℕ → File → ℕ → List Entry
lapses_below zero f d = []
lapses_below (suc n) f d = lapses_below n f d ++ lapse_of d n (position_at f.slots n)

-- "the next amounts that took effect".
unfoldable pub taken_of : File → ℕ → List Entry
taken_of f d = cond (takes_effect f d) (Entry.NextTaken f.next.amount ∷ []) []

-- The entries of an admitted participant: of its eight positions, and of its next amount.
unfoldable pub opened_entries : File → ℕ → List Entry
opened_entries f d = cond f.admitted (lapses_below 8 f d ++ taken_of f d) []

-- Their lines.
unfoldable pub opened_lines : File → ℕ → List ℕ
opened_lines f d = lines_of d [] (opened_entries f d)
