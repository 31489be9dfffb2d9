-- The amount of a deletion, paper 02, Ask 4 (002, section 6).
-- Assumes nothing.
use Rattle.std.specs.Prelude.{ℕ, List, ℤ}
use Rattle.manual.specs.Largest.{largest_at_least}

-- "the largest total of its three latest recorded months .., and 0 if none or negative", from the totals of these months.
unfoldable pub deletion_amount : List ℤ → ℕ
deletion_amount totals = largest_at_least 0 totals
