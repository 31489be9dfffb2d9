-- A text in a column, and a number with a point.
-- Assumes nothing.
use Rattle.std.specs.Prelude.{ℕ, zero, suc, ◌+◌, ◌-◌, ◌/◌, ◌%◌, ◌^◌, List, [], ◌∷◌, ◌++◌, length, replicate}
use Rattle.printing.specs.Decimals.{decimal}

-- A text with blanks on its left up to a width; a longer text stands in full.
unfoldable pub padded : ℕ → List ℕ → List ℕ
padded w t = replicate (w - length t) 32 ++ t

-- The last k digits of n, with their zeros.
unfoldable pub digits : ℕ → ℕ → List ℕ
digits zero n = []
digits (suc k) n = digits k (n / 10) ++ ((48 + n % 10) ∷ [])

-- n parts of 10^k to the whole, in decimal: the wholes, a point, and the last k digits.
unfoldable pub fixed : ℕ → ℕ → List ℕ
fixed k n = decimal (n / 10 ^ k) ++ (46 ∷ digits k n)
