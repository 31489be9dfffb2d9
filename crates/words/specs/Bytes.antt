-- The bytes of a journal's line.
-- Assumes nothing.
use Rattle.std.specs.Prelude.{ℕ, Bool, true, false, cond, not, ◌&&◌, ◌||◌, List, [], ◌∷◌, ltb, leb, eqb}
-- `each test text` is whether each byte of a text passes a test
unfoldable pub use Rattle.laws.specs.Every.{every as each}

-- 'The journal': "Blanks are spaces, tabs and carriage returns".
unfoldable pub blank : ℕ → Bool
blank b = eqb b 32 || (eqb b 9 || eqb b 13)

-- "any other control byte makes the line an error": 0 to 31 and 127 are the control bytes of ASCII.
unfoldable pub control : ℕ → Bool
control b = (ltb b 32 || eqb b 127) && not (blank b)

-- A decimal digit.
unfoldable pub digit : ℕ → Bool
digit b = leb 48 b && leb b 57

-- Whether some byte of a text passes a test.
unfoldable pub some : (ℕ → Bool) → List ℕ → Bool
some test [] = false
some test (b ∷ l) = test b || some test l

-- "`#` begins a comment", and "`#` ends the line even inside a word": what stands before the first `#`.
unfoldable pub uncommented : List ℕ → List ℕ
uncommented [] = []
uncommented (b ∷ l) = cond (eqb b 35) [] (b ∷ uncommented l)

-- Whether two texts are the same.
unfoldable pub same : List ℕ → List ℕ → Bool
same [] [] = true
same [] (b ∷ m) = false
same (a ∷ l) [] = false
same (a ∷ l) (b ∷ m) = eqb a b && same l m
