-- The last line of a session.
-- Assumes nothing.
use Rattle.std.specs.Prelude.{ℕ, ◌-◌, List, [], ◌∷◌, ◌++◌}
use Rattle.words.specs.Text.{text}
use Rattle.printing.specs.Decimals.{decimal}
use Rattle.dialogue.specs.declared.Place.{Place}

-- "a last line `end LINES ACCEPTED`": the lines of the input, and those of them that were neither refused nor an error.
unfoldable pub end_line : Place → List ℕ
end_line p = (((text "end " ++ decimal p.line) ++ text " ") ++ decimal (p.line - p.refused)) ++ (10 ∷ [])
