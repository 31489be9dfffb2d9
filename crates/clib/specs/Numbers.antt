-- The numbers that a function of the C library returns for each answer of papers 01 and 02.
-- Assumes nothing.
use Rattle.std.specs.Prelude.{ℕ, ◌≤◌, ℤ, pos, nat_abs, Result, Ok, Err}
use Rattle.refusal.specs.declared.Refusal.{Refusal}
use Rattle.refusal.specs.Numbers.{number_of}
use Rattle.batch.specs.declared.Misfit.{Misfit}
use Rattle.file.specs.Answer.{Answer, refused, done, called, covered, recorded, annual, days_opened, stated, counted, batched, refused_pair, deletion}
use Rattle.layout.specs.Parts.{flag_word}
use Rattle.clib.specs.declared.fault.Fault.{Fault}
use Rattle.clib.specs.declared.fault.Fault.TheVariants as Faults
use Rattle.clib.specs.declared.GuaranteeSettled.{GuaranteeSettled}
use Rattle.clib.specs.declared.GuaranteeBatch.{GuaranteeBatch}
use Rattle.clib.specs.declared.GuaranteeAnnual.{GuaranteeAnnual}
use Rattle.clib.specs.declared.GuaranteeDeletion.{GuaranteeDeletion}
use Rattle.clib.specs.declared.GuaranteeAdvanced.{GuaranteeAdvanced}
use Rattle.clib.specs.declared.GuaranteeStatement.{GuaranteeStatement}
use Rattle.clib.specs.declared.GuaranteeCount.{GuaranteeCount}
use Rattle.clib.specs.declared.GuaranteeDay.{GuaranteeDay}
use Rattle.clib.specs.declared.GuaranteeSpecial.{GuaranteeSpecial}

-- An answer's numbers: its refusal, 0 if it is none; a settlement's kind and total; and the other values in the paper's order.
pub record Numbers : Type 0 where
  pub refusal : ℕ
  pub kind : ℕ
  pub total : ℤ
  pub first : ℕ
  pub second : ℕ
  pub third : ℕ
  pub fourth : ℕ
  pub fifth : ℕ
  pub sixth : ℕ

-- Those of an accepted call that isn't a settlement.
abbrev pub values : ℕ → ℕ → ℕ → ℕ → ℕ → ℕ → Numbers
values a b c d e f = record { refusal = 0; kind = 0; total = pos 0; first = a; second = b; third = c; fourth = d; fifth = e; sixth = f }

-- Those of an accepted settlement: its kind, E, what is asked, the last free day.
abbrev pub settlement : ℕ → ℤ → ℕ → ℕ → Numbers
settlement k e asked last = record { refusal = 0; kind = k; total = e; first = asked; second = last; third = 0; fourth = 0; fifth = 0; sixth = 0 }

-- The numbers of each answer. A settlement's kind is 1 called, 2 covered, 3 recorded; a value that an answer doesn't have is 0.
abbrev pub answer_numbers : Answer → Numbers
answer_numbers (refused n) = record { refusal = n; kind = 0; total = pos 0; first = 0; second = 0; third = 0; fourth = 0; fifth = 0; sixth = 0 }
answer_numbers done = values 0 0 0 0 0 0
answer_numbers (called e asked last) = settlement 1 (pos e) asked last
answer_numbers (covered e) = settlement 2 e 0 0
answer_numbers (recorded e) = settlement 3 e 0 0
answer_numbers (annual a n) = values a n 0 0 0 0
answer_numbers (days_opened n) = values n 0 0 0 0 0
answer_numbers (stated f c s d a m) = values f c s d a m
answer_numbers (counted n) = values n 0 0 0 0 0
answer_numbers (batched n) = values n 0 0 0 0 0
answer_numbers (refused_pair n i) = record { refusal = n; kind = 0; total = pos 0; first = 0; second = i; third = 0; fourth = 0; fifth = 0; sixth = 0 }
answer_numbers (deletion a calls) = values a (flag_word calls) 0 0 0 0

-- What is returned for an answer that has no values.
abbrev pub refusal_number : Answer → ℕ
refusal_number x = (answer_numbers x).refusal

-- For a settlement's.
abbrev pub settled_numbers : Answer → GuaranteeSettled
settled_numbers x =
    let n = answer_numbers x in record { refusal = n.refusal; kind = n.kind; total = n.total; asked = n.first; last_free_day = n.second }

-- For a batch's (paper 02, Ask 1): how many parts were settled, or where it is refused the index of its pair.
abbrev pub batch_numbers : Answer → GuaranteeBatch
batch_numbers x = let n = answer_numbers x in record { refusal = n.refusal; parts = n.first; pair = n.second }

-- For an annual run's.
abbrev pub annual_numbers : Answer → GuaranteeAnnual
annual_numbers x = let n = answer_numbers x in record { refusal = n.refusal; amount = n.first; months = n.second }

-- For a deletion's (paper 02, Ask 4): the amount, and 1 if it became a call.
abbrev pub deletion_numbers : Answer → GuaranteeDeletion
deletion_numbers x = let n = answer_numbers x in record { refusal = n.refusal; amount = n.first; called = n.second }

-- For an advance's.
abbrev pub advanced_numbers : Answer → GuaranteeAdvanced
advanced_numbers x = let n = answer_numbers x in record { refusal = n.refusal; opened = n.first }

-- For a statement's.
abbrev pub statement_numbers : Answer → GuaranteeStatement
statement_numbers x =
    let n = answer_numbers x in
    record {
      refusal = n.refusal;
      firm = n.first;
      cover = n.second;
      shortfall = n.third;
      days_charged = n.fourth;
      accrued_mills = n.fifth;
      calls_made = n.sixth;
    }

-- For the count of calls made in all.
abbrev pub count_numbers : Answer → GuaranteeCount
count_numbers x = let n = answer_numbers x in record { refusal = n.refusal; count = n.first }

-- For today, which is the count of days since 1 January 2020.
abbrev pub day_numbers : Answer → GuaranteeDay
day_numbers x = let n = answer_numbers x in record { refusal = n.refusal; day = n.first }

-- What a settlement's answer is within: a total is the sum of at most 16 figures within plus or minus 10^12.
unfoldable pub SmallTotal : Answer → Type 0
SmallTotal x = nat_abs (answer_numbers x).total ≤ 16000000000000

-- For a special guarantee's.
abbrev pub special_numbers : Result ℕ Refusal → GuaranteeSpecial
special_numbers (Ok n) = record { refusal = 0; cents = n }
special_numbers (Err r) = record { refusal = number_of r; cents = 0 }

-- The answer that the book's refusal of a call stands for, and of a batch.
abbrev pub refusal_says : Refusal → Answer
refusal_says r = refused (number_of r)

abbrev pub misfit_says : Misfit → Answer
misfit_says m = refused_pair (number_of m.refusal) m.pair

-- The answer to a call that gives nothing: 100 where the words are not as many as a book's.
abbrev pub fault_says : {E : Type 0} → (E → Answer) → Fault E → Answer
fault_says refusal Faults.OtherLength = refused 100
fault_says refusal (Faults.Refused e) = refusal e

-- The answer to a call on lent words, given those that its value and its refusal stand for.
abbrev pub lent_says : {A E : Type 0} → (A → Answer) → (E → Answer) → Result A (Fault E) → Answer
lent_says value refusal (Ok x) = value x
lent_says value refusal (Err f) = fault_says refusal f
