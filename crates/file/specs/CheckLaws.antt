-- The answer of a settlement, by whether a call is made.
-- Assumes nothing.
use Rattle.std.specs.Prelude.{ℕ, ◌+◌, ◌-◌, ◌≡◌, refl, Bool, true, false, cond, ◌&&◌, List, Some, None, ℤ, nat_abs}
use Rattle.calendar.specs.Civil.{month_of}
use Rattle.manual.specs.Check.{call_is_made, checked}
use Rattle.manual.specs.Figures.{sum_of}
use Rattle.file.specs.declared.File.{File}
use Rattle.file.specs.Answer.{called, covered, recorded}
use Rattle.file.specs.Fields.{open_amounts}
use Rattle.file.specs.Settle.{check_due, deposited, settlement_calls, check_says, settled_answer}

-- Of a check that is due or not: called where a call is made, covered or recorded otherwise.
pub check-answers : (due : Bool) (e : ℤ) (d firm : ℕ) (opens : List ℕ) (last : ℕ)
    → cond due (check_says e last (checked e d firm opens)) (recorded e)
    ≡ cond (due && call_is_made e d firm opens) (called (nat_abs e) (nat_abs e - d) last) (cond due (covered e) (recorded e))
unfolding checked
check-answers false e d firm opens last = refl
check-answers true e d firm opens last = pick (call_is_made e d firm opens)
  where
    pick : (made : Bool)
        → check_says e last (cond made (Some (record { amount = nat_abs e; asked = nat_abs e - d })) None)
        ≡ cond made (called (nat_abs e) (nat_abs e - d) last) (covered e)
    pick true = refl
    pick false = refl

-- The same of a file's settlement.
pub settled-answer : (f : File) (t m : ℕ) (figures : List ℤ)
    → settled_answer f t m figures
    ≡ cond (settlement_calls f t m figures)
    (called (nat_abs (sum_of figures)) (nat_abs (sum_of figures) - deposited f t) (t + 10))
    (cond (check_due (month_of t) m) (covered (sum_of figures)) (recorded (sum_of figures)))
unfolding settled_answer settlement_calls
settled-answer f t m figures =
    check-answers (check_due (month_of t) m) (sum_of figures) (deposited f t) f.firm (open_amounts f) (t + 10)
