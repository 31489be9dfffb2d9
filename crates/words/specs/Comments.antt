-- The comment of a line, and the reference that is kept of it.
-- Assumes nothing.
use Rattle.std.specs.Prelude.{ℕ, cond, List, [], ◌∷◌, take, drop, eqb}
use Rattle.words.specs.Bytes.{blank, each}
use Rattle.words.specs.Words.{blanks_in}

-- "`#` begins a comment": what stands behind the first `#`; nothing where there is none.
unfoldable pub comment_of : List ℕ → List ℕ
comment_of [] = []
comment_of (b ∷ l) = cond (eqb b 35) l (comment_of l)

-- A text without the blanks at its end.
unfoldable pub trimmed : List ℕ → List ℕ
trimmed [] = []
trimmed (b ∷ l) = cond (each blank (b ∷ l)) [] (b ∷ trimmed l)

-- The reference of a line: its comment without the blanks before and behind it, at most the first 1,000 bytes.
unfoldable pub reference_of : List ℕ → List ℕ
reference_of line = trimmed (take 1000 (drop (blanks_in (comment_of line)) (comment_of line)))

-- A reference as it stands behind a call; nothing where there is none.
unfoldable pub commented : List ℕ → List ℕ
commented [] = []
commented (b ∷ r) = 32 ∷ 35 ∷ 32 ∷ b ∷ r
