-- Numbers in decimal, and words in a row.
-- Assumes nothing.
use Rattle.std.specs.Prelude.{ℕ, zero, suc, ◌+◌, ◌/◌, ◌%◌, cond, List, [], ◌∷◌, ◌++◌, ltb, ℤ, pos, negsuc}

-- The digits of n, of which there are at most one more than `more`: those of a tenth of it, rounded down, and its last.
unfoldable pub numeral : ℕ → ℕ → List ℕ
numeral zero n = (48 + n % 10) ∷ []
numeral (suc more) n = cond (ltb n 10) ((48 + n) ∷ []) (numeral more (n / 10) ++ ((48 + n % 10) ∷ []))

-- A natural number in decimal, with no zero in front. It has no more than one digit more than itself.
unfoldable pub decimal : ℕ → List ℕ
decimal n = numeral n n

-- A number in decimal, with a minus where it is below zero.
unfoldable pub integer : ℤ → List ℕ
integer (pos n) = decimal n
integer (negsuc n) = 45 ∷ decimal (suc n)

-- Each word with a blank before it.
unfoldable pub spaced : List (List ℕ) → List ℕ
spaced [] = []
spaced (w ∷ ws) = (32 ∷ w) ++ spaced ws

-- Words with a blank between each two.
unfoldable pub joined : List (List ℕ) → List ℕ
joined [] = []
joined (w ∷ ws) = w ++ spaced ws
