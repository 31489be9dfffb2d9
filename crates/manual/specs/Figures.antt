-- A month's figures, paper 01, 'Settle': "5 to 16 signed figures. .. Each is within plus or minus 10^12; .. E, their sum".
-- Assumes nothing.
use Rattle.std.specs.Prelude.{ℕ, Bool, true, cond, not, ◌&&◌, ◌||◌, List, [], ◌∷◌, ltb, leb, length, Result, Ok, Err, ℤ, nat_abs}
-- `sum_of` is E, the sum of the figures: x₁ + (x₂ + .. + 0)
unfoldable pub use Rattle.laws.specs.Integers.{sum_of}
use Rattle.refusal.specs.declared.Refusal.{Refusal}
use Rattle.refusal.specs.declared.Refusal.TheVariants.{FigureCount, OutOfRange}

-- The bound of a figure and of an amount, 10^12 cents.
abbrev pub bound : ℕ
bound = 1000000000000

-- Cause 10: "figures fewer than 5 or more than 16".
unfoldable pub wrong_count : List ℤ → Bool
wrong_count figures = ltb (length figures) 5 || ltb 16 (length figures)

-- Each figure "is within plus or minus 10^12".
unfoldable pub all_within : List ℤ → Bool
all_within [] = true
all_within (x ∷ rest) = leb (nat_abs x) bound && all_within rest

-- Cause 11: "a figure .. out of its range".
unfoldable pub out_of_range : List ℤ → Bool
out_of_range figures = not (all_within figures)

-- The sum of the figures, or the first of the causes 10 and 11 that holds.
unfoldable pub summed : List ℤ → Result ℤ Refusal
summed figures = cond (wrong_count figures) (Err FigureCount) (cond (out_of_range figures) (Err OutOfRange) (Ok (sum_of figures)))
