-- The annual amount of paper 01, 'Annual run' (002, 2.1).
-- Assumes nothing.
use Rattle.std.specs.Prelude.{ℕ, List, ℤ}
use Rattle.manual.specs.Minimum.{minimum_of}
use Rattle.manual.specs.Largest.{largest_at_least}

-- "The largest recorded total .., raised to the role's minimum if below it; the minimum if none is recorded."
unfoldable pub annual_amount : ℕ → List ℤ → ℕ
annual_amount role totals = largest_at_least (minimum_of role) totals
