-- Month totals, the amount of a deletion and the next amount, read from a participant's settlements and annual runs.
-- Assumes nothing.
use Rattle.std.specs.Prelude.{ℕ, zero, suc, ◌-◌, cond, List, [], ◌∷◌, eqb, take, ℤ}
use Rattle.calendar.specs.Civil.{month_of, is_first_october}
use Rattle.manual.specs.Annual.{annual_amount}
use Rattle.manual.specs.Deletion.{deletion_amount}
use Rattle.manual.specs.Figures.{sum_of}
use Rattle.file.specs.declared.NextAmount.{NextAmount}
use Rattle.file.specs.Fields.{unset, set_to}
use Rattle.file.specs.Totals.{Total, none, total, added, year_totals}
use Rattle.book.specs.Call.{admit, lodge, release, settle, annual_run, delete}
use Rattle.book.specs.Reading.Events.{Own, day_opened, act, role_in}

-- "A month's total is that of its last accepted settlement."
unfoldable pub total_in : List Own → ℕ → Total
total_in [] m = none
total_in (day_opened d ∷ own) m = total_in own m
total_in (act d (admit role) ∷ own) m = total_in own m
total_in (act d (lodge k h) ∷ own) m = total_in own m
total_in (act d (release k a) ∷ own) m = total_in own m
total_in (act d (settle n figures) ∷ own) m = cond (eqb n m) (total (sum_of figures)) (total_in own m)
total_in (act d annual_run ∷ own) m = total_in own m
total_in (act d delete ∷ own) m = total_in own m

-- The totals that the settlements recorded "of months P − 14 to P − 3 (July to June)", P being the month of day d.
unfoldable pub years_totals : ℕ → List Own → List ℤ
years_totals d own = year_totals (total_in own) (month_of d)

-- The amount of an annual run on day d: the largest of them, raised to the role's minimum.
unfoldable pub annual_in : ℕ → List Own → ℕ
annual_in d own = annual_amount (role_in own) (years_totals d own)

-- The recorded totals of the n months before month m, the latest first; there is no month before month 0.
unfoldable pub totals_before : (ℕ → Total) → (m n : ℕ) → List ℤ
totals_before look m zero = []
totals_before look zero (suc n) = []
totals_before look (suc m) (suc n) = added (look m) (totals_before look m n)

-- Paper 02, Ask 4: a deletion's amount, "the largest total of its three latest recorded months among P − 14 to P − 2, of fewer if fewer are recorded,
-- and 0 if none or negative". The months from P − 2 down to P − 14 are the thirteen before month P − 1.
unfoldable pub deletion_in : ℕ → List Own → ℕ
deletion_in d own = deletion_amount (take 3 (totals_before (total_in own) (month_of d - 1) 13))

-- "The amount of the last annual run is the next amount until the next 1 October opens, when it takes effect." Paper 02,
-- Ask 4: "a next amount already set stays".
unfoldable pub next_in : List Own → NextAmount
next_in [] = unset
next_in (day_opened d ∷ own) = cond (is_first_october d) unset (next_in own)
next_in (act d (admit role) ∷ own) = next_in own
next_in (act d (lodge k h) ∷ own) = next_in own
next_in (act d (release k a) ∷ own) = next_in own
next_in (act d (settle m figures) ∷ own) = next_in own
next_in (act d annual_run ∷ own) = set_to (annual_in d own)
next_in (act d delete ∷ own) = next_in own
