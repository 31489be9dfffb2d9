-- The lines of entries.
-- Assumes nothing.
use Rattle.std.specs.Prelude.{ℕ, List, [], ◌∷◌, ◌++◌}
use Rattle.words.specs.Text.{text}
use Rattle.printing.specs.Dates.{date_text}
use Rattle.entries.specs.Entries.{entry_text}
use Rattle.entries.specs.declared.entry.Entry.{Entry}

-- The reference of a call, the comment of its line; nothing for none.
unfoldable pub reference_text : List ℕ → List ℕ
reference_text [] = []
reference_text (b ∷ r) = text "  # " ++ (b ∷ r)

-- The line of an entry: its day, and behind it the reference.
unfoldable pub entry_line : ℕ → List ℕ → Entry → List ℕ
entry_line d r e = date_text d ++ text "  " ++ entry_text e ++ reference_text r ++ (10 ∷ [])

-- The lines of the entries of a day, one below the other: the reference stands behind the last.
unfoldable pub lines_of : ℕ → List ℕ → List Entry → List ℕ
lines_of d r [] = []
lines_of d r (e ∷ []) = entry_line d r e
lines_of d r (e ∷ f ∷ es) = entry_line d [] e ++ lines_of d r (f ∷ es)
