-- Paper 01, 'Settle'. Causes in their order: 12, 10, 11, 13. P is the month that holds t.
-- Assumes nothing.
use Rattle.std.specs.Prelude.{ℕ, ◌+◌, Bool, cond, not, ◌&&◌, List, [], ◌∷◌, ◌++◌, leb, eqb, length, Option, Some, None, ℤ, nat_abs}
use Rattle.calendar.specs.Civil.{month_of, is_september}
use Rattle.manual.specs.declared.Call.{Call}
use Rattle.manual.specs.Check.{call_is_made, checked}
use Rattle.manual.specs.Figures.{sum_of, wrong_count, out_of_range}
use Rattle.file.specs.declared.File.{File}
use Rattle.file.specs.declared.OpenCall.{OpenCall}
use Rattle.file.specs.Answer.{Answer, refused, called, covered, recorded, decide, accepted}
use Rattle.file.specs.Calls.{call_of}
use Rattle.file.specs.Position.{cover_through}
use Rattle.file.specs.Totals.{with_total}
use Rattle.file.specs.Fields.{open_calls, open_amounts, with_totals}

-- Cause 12: "month outside P − 14 to P − 2".
unfoldable pub outside_months : ℕ → ℕ → Bool
outside_months p m = not (leb p (m + 14) && leb (m + 2) p)

-- "If M = P − 2 and P isn't a September, E is checked".
unfoldable pub check_due : ℕ → ℕ → Bool
check_due p m = eqb (m + 2) p && not (is_september p)

-- D. Paper 02, Ask 2: "the amount in force today that will still be in force on day t + 11", so all cash, and the letters that have begun by t and last
-- to day t + 11 or longer. That day may lie past the calendar, where no letter lasts.
unfoldable pub deposited : File → ℕ → ℕ
deposited f t = cover_through t (t + 11) f.slots

-- Whether month m's figures call on day t: a check is due, and the manual's check calls.
unfoldable pub settlement_calls : File → ℕ → ℕ → List ℤ → Bool
settlement_calls f t m figures =
    check_due (month_of t) m && call_is_made (sum_of figures) (deposited f t) f.firm (open_amounts f)

-- What a check of the total e answers: "called (E, asked, last free day), covered (E)".
abbrev pub check_says : ℤ → ℕ → Option Call → Answer
check_says e last (Some call) = called call.amount call.asked last
check_says e last None = covered e

-- The answer where no cause holds: the check's, ".. or recorded only (E) where no check was due".
unfoldable pub settled_answer : File → ℕ → ℕ → List ℤ → Answer
settled_answer f t m figures =
    cond (check_due (month_of t) m)
    (check_says (sum_of figures) (t + 10) (checked (sum_of figures) (deposited f t) f.firm (open_amounts f)))
    (recorded (sum_of figures))

-- What a settlement of month m on day t answers. Cause 13: "the call would be a fifth open one".
unfoldable pub settle_answer : File → ℕ → ℕ → List ℤ → Answer
settle_answer f t m figures =
    decide refused
    (record { number = 12; holds = outside_months (month_of t) m }
    ∷ record { number = 10; holds = wrong_count figures }
    ∷ record { number = 11; holds = out_of_range figures }
    ∷ record { number = 13; holds = settlement_calls f t m figures && leb 4 (length (open_calls f)) }
    ∷ [])
    (settled_answer f t m figures)

-- The open calls after an accepted settlement: "amount E, last free day t + 10".
unfoldable pub calls_settled : File → ℕ → ℕ → List ℤ → List OpenCall
calls_settled f t m figures =
    cond (settlement_calls f t m figures) (open_calls f ++ (call_of (nat_abs (sum_of figures)) (t + 10) ∷ [])) (open_calls f)

-- The file after it: "E, their sum, is recorded for M, replacing an earlier total." A call is one more in its count of calls made (paper 02, Ask 6).
unfoldable pub settled_file : File → ℕ → ℕ → List ℤ → File
settled_file f t m figures =
    cond (accepted (settle_answer f t m figures))
    (with_totals f (with_total f.totals m (sum_of figures)) (calls_settled f t m figures) (cond (settlement_calls f t m figures) 1 0))
    f
