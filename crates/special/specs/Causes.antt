-- The causes of refusal of paper 01 for the special guarantee: "special 19, 11, 18".
-- Assumes nothing.
use Rattle.std.specs.Prelude.{ℕ, Bool, not, ◌&&◌, ◌||◌, List, ltb, eqb, length, ℤ}
use Rattle.special.specs.Ranges.{rates_in_range, marks_in_range, zeros_in_range, excesses_in_range}

-- Cause 19, of the lists' lengths: "more than 64 rates, marks not as many as low rates, or the four lists unequal or above 16".
unfoldable pub wrong_lengths : ℕ → ℕ → ℕ → ℕ → ℕ → ℕ → ℕ → Bool
wrong_lengths medium low marks zero_medium zero_low excess_medium excess_low =
    ltb 64 medium || ltb 64 low || not (eqb marks low) || not (eqb zero_low zero_medium) || not (eqb excess_medium zero_medium)
    || not (eqb excess_low zero_medium) || ltb 16 zero_medium

-- Cause 11: "a .. rate, zero settlement or excess out of its range, a mark above 1".
unfoldable pub outside_ranges : List ℤ → List ℤ → List ℕ → List ℤ → List ℤ → List ℤ → List ℤ → Bool
outside_ranges medium low marks zero_medium zero_low excess_medium excess_low =
    not (rates_in_range medium && rates_in_range low && marks_in_range marks && (zeros_in_range zero_medium && zeros_in_range zero_low)
    && (excesses_in_range excess_medium && excesses_in_range excess_low))

-- Cause 18: "fewer than three usable rates in a list".
unfoldable pub too_few : List ℤ → List ℤ → Bool
too_few medium low = ltb (length medium) 3 || ltb (length low) 3
