-- The ratio of paper 01, 'Special guarantee' (002, 7.1).
-- Assumes nothing.
use Rattle.std.specs.Prelude.{ℕ, cond, List, [], ◌∷◌, eqb, ltb, length, Result, Ok, Err, ℤ}
use Rattle.refusal.specs.declared.Refusal.{Refusal}
use Rattle.refusal.specs.declared.Refusal.TheVariants.{TooFewRates}
use Rattle.laws.specs.Largest.{three_largest, mean_of_three}

-- "marked ones skipped": the rates whose mark is 0. A rate with no mark beside it is not marked.
unfoldable pub usable : List ℤ → List ℕ → List ℤ
usable [] marks = []
usable (rate ∷ rates) [] = rate ∷ usable rates []
usable (rate ∷ rates) (mark ∷ marks) = cond (eqb mark 0) (rate ∷ usable rates marks) (usable rates marks)

-- "A ratio is the mean of the three largest rates .., to the nearest whole, halves upward."
unfoldable pub ratio : List ℤ → ℤ
ratio rates = mean_of_three (three_largest rates)

-- .. where there are three rates or more: otherwise cause 18 holds.
unfoldable pub ratio_of_enough : List ℤ → Result ℤ Refusal
ratio_of_enough rates = cond (ltb (length rates) 3) (Err TooFewRates) (Ok (ratio rates))
