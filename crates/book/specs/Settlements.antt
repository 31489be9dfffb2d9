-- What the functions that decide and write a settlement ensure.
-- Assumes nothing.
use Rattle.std.specs.Prelude.{ℕ, ◌≡◌, Bool, true, cond, List, ℤ, Result, Ok, Err}
use Rattle.refusal.specs.declared.Refusal.{Refusal}
use Rattle.refusal.specs.declared.Refusal.TheVariants.{MonthOutOfRange}
use Rattle.calendar.specs.Civil.{month_of}
use Rattle.manual.specs.Figures.{summed}
use Rattle.file.specs.declared.File.{File}
use Rattle.file.specs.Answer.{Answer}
use Rattle.file.specs.Settle.{outside_months, check_due, settle_answer}
use Rattle.layout.specs.Words.{file_in_words, today_in}
use Rattle.book.specs.Call.{settle, on}
use Rattle.book.specs.InWords.{GivenWords}

-- Whether a check of month m is due on day t, or cause 12.
abbrev pub due_on : ℕ → ℕ → Result Bool Refusal
due_on t m = cond (outside_months (month_of t) m) (Err MonthOutOfRange) (Ok (check_due (month_of t) m))

-- x is what an admitted participant's file f answers on day t to every settlement of a month of which a check is due as `due` says, and whose figures
-- have this sum.
abbrev pub AnswersSettlement : (f : File) (t : ℕ) → Result Bool Refusal → Result ℤ Refusal → Answer → Type 0
AnswersSettlement f t due sum x =
    (m : ℕ) (figures : List ℤ) → due ≡ due_on t m → sum ≡ summed figures → x ≡ settle_answer f t m figures

-- These are the words after every settlement of month m of an admitted participant that has the answer x.
abbrev pub PutsSettlement : List ℕ → (p m : ℕ) → Answer → List ℕ → Type 0
PutsSettlement l p m x after =
    (figures : List ℤ) → (file_in_words l p).admitted ≡ true → x ≡ settle_answer (file_in_words l p) (today_in l) m figures
    → GivenWords l (on p (settle m figures)) x after
