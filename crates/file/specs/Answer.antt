-- What papers 01 and 02 have a call answer: the number of a cause of refusal, or the values named for that call. And which answer each result of the
-- code stands for.
-- Assumes nothing.
use Rattle.std.specs.Prelude.{ℕ, Bool, true, false, ℤ, Result, Ok, Err}
-- a cause of refusal, and the answer that causes in an order leave
pub use Rattle.laws.specs.Causes.{Cause}
unfoldable pub use Rattle.laws.specs.Causes.{decide}
use Rattle.refusal.specs.declared.Refusal.{Refusal}
use Rattle.refusal.specs.Numbers.{number_of}
use Rattle.file.specs.declared.Settled.{Settled}
use Rattle.file.specs.declared.Settled.TheVariants as Settlements
use Rattle.file.specs.declared.AnnualRun.{AnnualRun}
use Rattle.file.specs.declared.Deletion.{Deletion}
use Rattle.file.specs.declared.Statement.{Statement}

-- The answers of paper 01, 'The calls' and 'Causes of refusal', and of paper 02.
pub data Answer : Type 0 where
  -- "the number" of the cause
  refused : ℕ → Answer
  -- "Accepted admissions, lodgings and releases answer "done" only."
  done : Answer
  -- "called (E, asked, last free day)"
  called : ℕ → ℕ → ℕ → Answer
  -- "covered (E)"
  covered : ℤ → Answer
  -- "recorded only (E) where no check was due"
  recorded : ℤ → Answer
  -- an annual run's amount "and how many months were recorded"
  annual : ℕ → ℕ → Answer
  -- an advance "answers how many days it opened"
  days_opened : ℕ → Answer
  -- "firm amount, cover, shortfall, days charged, accrued charge", and since paper 02, Ask 6 the count of calls made, "shown in its statement"
  stated : ℕ → ℕ → ℕ → ℕ → ℕ → ℕ → Answer
  -- "one count of calls made .. a question of its own shows it". Paper 02, Ask 6: it "is answered with the sum of the counts"
  counted : ℕ → Answer
  -- paper 02, Ask 1: "an accepted batch answers n"
  batched : ℕ → Answer
  -- .. "The first refusal is answered with its pair's index": the number, and the index
  refused_pair : ℕ → ℕ → Answer
  -- paper 02, Ask 4, of a deletion: "The answer gives the amount and whether it became a call."
  deletion : ℕ → Bool → Answer

-- Whether an answer is no refusal.
abbrev pub accepted : Answer → Bool
accepted (refused n) = false
accepted done = true
accepted (called e asked last) = true
accepted (covered e) = true
accepted (recorded e) = true
accepted (annual a n) = true
accepted (days_opened n) = true
accepted (stated f c s d a m) = true
accepted (counted n) = true
accepted (batched n) = true
accepted (refused_pair n i) = false
accepted (deletion a calls) = true

-- The answer that a result stands for: that of its value, or the number of its refusal.
abbrev pub says : {A : Type 0} → (A → Answer) → Result A Refusal → Answer
says value (Ok x) = value x
says value (Err r) = refused (number_of r)

-- That of an outcome.
abbrev pub outcome_says : Result Unit Refusal → Answer
outcome_says = says (λ x. done)

-- That of a settlement: by its case, where it isn't refused.
abbrev pub settlement_says : Settled → Answer
settlement_says (Settlements.Called e asked last) = called e asked last.0
settlement_says (Settlements.Covered e) = covered e
settlement_says (Settlements.Recorded e) = recorded e

abbrev pub settled_says : Result Settled Refusal → Answer
settled_says = says settlement_says

-- That of an annual run.
abbrev pub annual_says : Result AnnualRun Refusal → Answer
annual_says = says (λ run. annual run.amount run.months)

-- That of a deletion.
abbrev pub deletion_says : Result Deletion Refusal → Answer
deletion_says = says (λ d. deletion d.amount d.called)

-- The answer that a statement stands for.
abbrev pub statement_says : Statement → Answer
statement_says s = stated s.firm s.cover s.shortfall s.charged s.accrued s.made
