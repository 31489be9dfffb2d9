-- Paper 01, 'Day charge' (002, section 4).
-- Assumes nothing.
use Rattle.std.specs.Prelude.{ℕ, max, cond, eqb}

-- "With shortfall S cents: 0 if S is 0, otherwise the larger of S and 100,000,000 mills (1‰ of S, at least €1,000)."
unfoldable pub day_charge : ℕ → ℕ
day_charge s = cond (eqb s 0) 0 (max s 100000000)
