-- What the three rates that the code keeps stand for.
-- Assumes nothing.
use Rattle.std.specs.Prelude.{◌≡◌, List, [], ◌∷◌, ◌++◌, length, take, ℤ, neg_ℤ, pos}
use Rattle.laws.specs.Largest.{falling}
use Rattle.special.specs.declared.rates.Best.{Best}

-- The three kept rates as a list.
abbrev pub kept : Best → List ℤ
kept best = best.a ∷ best.b ∷ best.c ∷ []

-- Three places without a rate: a number below every rate stands in each.
abbrev pub empty : List ℤ
empty = neg_ℤ (pos 100001) ∷ neg_ℤ (pos 100001) ∷ neg_ℤ (pos 100001) ∷ []

-- The three largest of some rates are kept, largest first, with how many rates there were.
pub record BestOf (rates : List ℤ) (best : Best) : Type 0 where
  pub largest : kept best ≡ take 3 (falling rates ++ empty)
  pub number : best.n ≡ length rates
