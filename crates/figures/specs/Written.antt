-- Files of a month, as the facts write them (paper 02, Ask 1). The facts about the bytes themselves have each byte written out.
-- Assumes nothing.
use Rattle.std.specs.Prelude.{ℕ, ◌+◌, ◌*◌, ◌-◌, ◌/◌, ◌%◌, List, [], ◌∷◌, ◌++◌, length, ℤ, pos, negsuc}

-- A number in 2, 4 and 8 bytes, least byte first.
abbrev pub in_two_bytes : ℕ → List ℕ
in_two_bytes n = n % 256 ∷ n / 256 % 256 ∷ []

abbrev pub in_four_bytes : ℕ → List ℕ
in_four_bytes n = in_two_bytes (n % 65536) ++ in_two_bytes (n / 65536)

abbrev pub in_eight_bytes : ℕ → List ℕ
in_eight_bytes n = in_four_bytes (n % 4294967296) ++ in_four_bytes (n / 4294967296)

-- A figure's 8 bytes: a negative one is 2^64 less its amount.
abbrev pub cents : ℤ → List ℕ
cents (pos n) = in_eight_bytes n
cents (negsuc n) = in_eight_bytes (18446744073709551615 - n)

abbrev pub all_cents : List ℤ → List ℕ
all_cents [] = []
all_cents (x ∷ figures) = cents x ++ all_cents figures

-- A part: the participant, the number of its figures, and the figures.
abbrev pub part : ℕ → List ℤ → List ℕ
part p figures = p ∷ length figures ∷ all_cents figures

-- The pairs of some parts, the first of which begins at this place.
abbrev pub pairs : ℕ → List (List ℕ) → List ℕ
pairs at [] = []
pairs at (x ∷ parts) = in_four_bytes at ++ in_four_bytes (length x) ++ pairs (at + length x) parts

abbrev pub joined : List (List ℕ) → List ℕ
joined [] = []
joined (x ∷ parts) = x ++ joined parts

-- The file of a month with these parts.
abbrev pub file : ℕ → List (List ℕ) → List ℕ
file month parts = in_two_bytes month ++ in_two_bytes (length parts) ++ pairs (4 + 8 * length parts) parts ++ joined parts
