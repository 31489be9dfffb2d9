-- Bytes as hexadecimal digits, in one word of a line.
-- Assumes nothing.
use Rattle.std.specs.Prelude.{ℕ, ◌+◌, ◌-◌, ◌*◌, ◌%◌, Bool, cond, ◌&&◌, ◌||◌, List, [], ◌∷◌, leb, eqb, ℤ, pos, length}
use Rattle.words.specs.Bytes.{digit, each}

-- A letter from a to f, and one from A to F.
unfoldable pub lower_hex : ℕ → Bool
lower_hex b = leb 97 b && leb b 102

unfoldable pub upper_hex : ℕ → Bool
upper_hex b = leb 65 b && leb b 70

-- "hexadecimal digits .., either case".
unfoldable pub hex_digit : ℕ → Bool
hex_digit b = digit b || (lower_hex b || upper_hex b)

-- What a hexadecimal digit stands for, from 0 to 15; 0 for what is none.
unfoldable pub hex_value : ℕ → ℕ
hex_value b = cond (digit b) (b - 48) (cond (lower_hex b) (b - 87) (cond (upper_hex b) (b - 55) 0))

-- "an odd number of digits or another character is an error".
unfoldable pub hexadecimal : List ℕ → Bool
hexadecimal w = eqb (length w % 2) 0 && each hex_digit w

-- "two hexadecimal digits a byte": the bytes as numbers from 0 to 255.
unfoldable pub bytes_of_hex : List ℕ → List ℤ
bytes_of_hex [] = []
bytes_of_hex (a ∷ []) = []
bytes_of_hex (a ∷ b ∷ w) = pos (16 * hex_value a + hex_value b) ∷ bytes_of_hex w
