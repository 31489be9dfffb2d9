-- The largest of totals, and at least an amount: what the amounts of an annual run and of a deletion have in common.
-- Assumes nothing.
use Rattle.std.specs.Prelude.{ℕ, List, [], ◌∷◌, ℤ, pos, nat_abs}
-- `larger a b` is the larger of two totals
unfoldable pub use Rattle.laws.specs.Integers.{larger}

-- The largest of a total and those after it.
unfoldable pub largest_total : ℤ → List ℤ → ℤ
largest_total a [] = a
largest_total a (b ∷ rest) = larger a (largest_total b rest)

-- The largest of totals, raised to an amount if below it; the amount if there are none.
unfoldable pub largest_at_least : ℕ → List ℤ → ℕ
largest_at_least least [] = least
largest_at_least least (a ∷ rest) = nat_abs (larger (largest_total a rest) (pos least))
