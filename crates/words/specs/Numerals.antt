-- Numbers as words of a line.
-- Assumes nothing.
use Rattle.std.specs.Prelude.{ℕ, ◌+◌, ◌-◌, ◌*◌, min, Bool, false, cond, List, [], ◌∷◌, eqb, ℤ, pos, neg_ℤ, Option, Some, None}
use Rattle.words.specs.Bytes.{digit, each}

-- Whether a word is a natural number: one digit or more, "any number of digits", with no sign.
unfoldable pub natural : List ℕ → Bool
natural [] = false
natural (b ∷ w) = each digit (b ∷ w)

-- The number that digits give after those of a number n.
unfoldable pub value_from : ℕ → List ℕ → ℕ
value_from n [] = n
value_from n (b ∷ w) = value_from (10 * n + (b - 48)) w

-- The number that digits give.
abbrev pub value : List ℕ → ℕ
value w = value_from 0 w

-- A natural number of 64 bits: "one too large for its type counts as the type's largest", 2^64 - 1.
unfoldable pub natural_of : List ℕ → Option ℕ
natural_of w = cond (natural w) (Some (min (value w) 18446744073709551615)) None

-- The same held as a signed number of 64 bits, whose largest is 2^63 - 1.
unfoldable pub unsigned_of : List ℕ → Option ℤ
unsigned_of w = cond (natural w) (Some (pos (min (value w) 9223372036854775807))) None

-- What a minus stands before: the least signed number of 64 bits is - 2^63.
unfoldable pub negative_of : List ℕ → Option ℤ
negative_of w = cond (natural w) (Some (neg_ℤ (pos (min (value w) 9223372036854775808)))) None

-- A number that "may have a minus".
unfoldable pub signed_of : List ℕ → Option ℤ
signed_of [] = None
signed_of (b ∷ w) = cond (eqb b 45) (negative_of w) (unsigned_of (b ∷ w))
