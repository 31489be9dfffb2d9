-- Amounts as words of a line: cents, or euros.
-- Assumes nothing.
use Rattle.std.specs.Prelude.{ℕ, ◌+◌, ◌-◌, ◌*◌, min, Bool, cond, ◌&&◌, List, [], ◌∷◌, leb, eqb, length, take, drop, get_or, ℤ, pos, neg_ℤ, Option, Some, None}
use Rattle.words.specs.Numerals.{natural, value, natural_of}

-- What stands before the last three bytes of a word, and the last two.
abbrev pub euros_in : List ℕ → List ℕ
euros_in w = take (length w - 3) w

abbrev pub cents_in : List ℕ → List ℕ
cents_in w = drop (length w - 2) w

-- "in euros with exactly two digits behind a dot": one digit or more, a dot, two digits.
unfoldable pub is_euros : List ℕ → Bool
is_euros w = leb 4 (length w) && (eqb (get_or w (length w - 3) 0) 46 && (natural (euros_in w) && natural (cents_in w)))

-- "20000.00 is 2000000 cents": 100 for each euro and one for each cent, of 64 bits, "saturating like the numbers".
unfoldable pub euros_of : List ℕ → Option ℕ
euros_of w = cond (is_euros w) (Some (min (100 * value (euros_in w) + value (cents_in w)) 18446744073709551615)) None

-- "An amount of lodge and release": a natural number of cents, or euros.
unfoldable pub amount_of : List ℕ → Option ℕ
amount_of w = cond (natural w) (natural_of w) (euros_of w)

-- An amount held as a signed number of 64 bits, whose largest is 2^63 - 1, and what a minus stands before, whose least is - 2^63.
abbrev pub held : Option ℕ → Option ℤ
held (Some n) = Some (pos (min n 9223372036854775807))
held None = None

abbrev pub negated : Option ℕ → Option ℤ
negated (Some n) = Some (neg_ℤ (pos (min n 9223372036854775808)))
negated None = None

-- "a figure of settle": an amount that "may have a minus before it".
unfoldable pub figure_of : List ℕ → Option ℤ
figure_of [] = None
figure_of (b ∷ w) = cond (eqb b 45) (negated (amount_of w)) (held (amount_of (b ∷ w)))
