-- The shortfalls at the openings, the days charged and the accrued charge.
-- Assumes nothing.
use Rattle.std.specs.Prelude.{ℕ, ◌+◌, ◌-◌, cond, List, [], ◌∷◌, eqb}
use Rattle.manual.specs.Charge.{day_charge}
use Rattle.book.specs.Reading.Events.{Own, day_opened, act, admitted_in}
use Rattle.book.specs.Reading.Holdings.{cover_in}
use Rattle.book.specs.Reading.Calls.{firm_in}

-- What stood before day d was opened: "at the opening, those made before it".
unfoldable pub before : ℕ → List Own → List Own
before d [] = []
before d (day_opened e ∷ own) = cond (eqb e d) own (before d own)
before d (act e a ∷ own) = before d own

-- "The opening shortfall of d is the firm amount on d less the cover at its opening, never below 0."
unfoldable pub opening_shortfall : ℕ → List Own → ℕ
opening_shortfall d own = firm_in d own - cover_in d (before d own)

-- "the days opened since the admission".
unfoldable pub days_since : List Own → List ℕ
days_since [] = []
days_since (day_opened d ∷ own) = cond (admitted_in own) (d ∷ days_since own) []
days_since (act d a ∷ own) = days_since own

-- How many of some days had an opening shortfall above 0, and the sum of their day charges.
unfoldable pub count_short : List ℕ → List Own → ℕ
count_short [] own = 0
count_short (d ∷ days) own = cond (eqb (opening_shortfall d own) 0) 0 1 + count_short days own

unfoldable pub sum_charges : List ℕ → List Own → ℕ
sum_charges [] own = 0
sum_charges (d ∷ days) own = day_charge (opening_shortfall d own) + sum_charges days own

-- "Days charged counts the days opened since the admission whose opening shortfall is above 0; the accrued charge sums their day charges."
unfoldable pub charged_in : List Own → ℕ
charged_in own = count_short (days_since own) own

unfoldable pub accrued_in : List Own → ℕ
accrued_in own = sum_charges (days_since own) own
