-- Bytes as hexadecimal digits.
-- Assumes nothing.
use Rattle.std.specs.Prelude.{ℕ, ◌+◌, ◌/◌, ◌%◌, cond, List, [], ◌∷◌, ◌++◌, ltb, ℤ, nat_abs}

-- The last hexadecimal digit of a number, in lower case.
unfoldable pub last_hex : ℕ → ℕ
last_hex n = cond (ltb (n % 16) 10) (48 + n % 16) (87 + n % 16)

-- "two hexadecimal digits a byte": the last two of a number without its minus. A byte has no more.
unfoldable pub hex_byte : ℤ → List ℕ
hex_byte z = last_hex (nat_abs z / 16) ∷ last_hex (nat_abs z) ∷ []

-- Bytes one after the other.
unfoldable pub hex_bytes : List ℤ → List ℕ
hex_bytes [] = []
hex_bytes (z ∷ zs) = hex_byte z ++ hex_bytes zs

-- "in one word; `batch` alone for an empty file".
unfoldable pub hex_words : List ℤ → List (List ℕ)
hex_words [] = []
hex_words (z ∷ zs) = hex_bytes (z ∷ zs) ∷ []
