-- Paper 01, 'Annual run' (participant), 1 to 10 September, P being that month. Causes in their order: 14, and since paper 02, Ask 4, 25.
-- Assumes nothing.
use Rattle.std.specs.Prelude.{ℕ, cond, not, List, [], ◌∷◌, length, ℤ}
use Rattle.calendar.specs.Civil.{month_of, in_annual_days}
use Rattle.manual.specs.Annual.{annual_amount}
use Rattle.file.specs.declared.File.{File}
use Rattle.file.specs.Answer.{Answer, refused, annual, decide, accepted}
use Rattle.file.specs.Totals.{total_at, year_totals}
use Rattle.file.specs.Fields.{set_to, with_next}

-- The totals that the file has recorded "of months P − 14 to P − 3 (July to June)".
unfoldable pub annual_totals : File → ℕ → List ℤ
annual_totals f t = year_totals (total_at f.totals) (month_of t)

-- The amount: the largest of them, "raised to the role's minimum if below it; the minimum if none is recorded".
unfoldable pub annual_amount_of : File → ℕ → ℕ
annual_amount_of f t = annual_amount f.role (annual_totals f t)

-- "The answer gives it and how many months were recorded." Paper 02, Ask 4: "The annual run no longer takes such a file", one placed under deletion:
-- "25 annual run for such a file, after 14".
unfoldable pub annual_answer : File → ℕ → Answer
annual_answer f t =
    decide refused
    (record { number = 14; holds = not (in_annual_days t) } ∷ record { number = 25; holds = f.leaving } ∷ [])
    (annual (annual_amount_of f t) (length (annual_totals f t)))

-- The file after it: "It becomes the next amount, replacing an earlier one."
unfoldable pub annual_file : File → ℕ → File
annual_file f t = cond (accepted (annual_answer f t)) (with_next f (set_to (annual_amount_of f t))) f
