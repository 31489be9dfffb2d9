-- 'The journal': "Answers, one line for each call line", from the answers of papers 01 and 02.
-- Assumes nothing.
use Rattle.std.specs.Prelude.{ℕ, Result, Ok, Err}
use Rattle.file.specs.Answer as Said
use Rattle.refusal.specs.declared.Refusal.{Refusal}
use Rattle.refusal.specs.Numbers.{number_of}
use Rattle.printing.specs.declared.Answer.{Answer}

-- The answer of the journal for each answer of the book:
-- "done | refused N | called E ASKED LAST_FREE_DAY | covered E | recorded E | annual AMOUNT MONTHS | opened DAYS
-- | statement FIRM COVER SHORTFALL DAYS_CHARGED MILLS | calls N", since paper 02, Ask 6 with CALLS behind MILLS; of a batch `batch N` and
-- `refused NUMBER INDEX`; and of a deletion `deletion AMOUNT CALLED`.
abbrev pub shown : Said.Answer → Answer
shown (Said.refused n) = Answer.Refused n
shown Said.done = Answer.Done
shown (Said.called e asked last) = Answer.Called e asked (record { 0 = last })
shown (Said.covered e) = Answer.Covered e
shown (Said.recorded e) = Answer.Recorded e
shown (Said.annual a n) = Answer.Annual a n
shown (Said.days_opened n) = Answer.Opened n
shown (Said.stated f c s d a m) = Answer.Statement f c s d a m
shown (Said.counted n) = Answer.Calls n
shown (Said.batched n) = Answer.Batch n
shown (Said.refused_pair n i) = Answer.RefusedPair n i
shown (Said.deletion a calls) = Answer.Deletion a calls

-- "`file P`: refused 1, 2": the refusal of the participant's statement; else nothing, since the file is shown as the report is.
abbrev pub file_shown : Answer → Answer
file_shown (Answer.Refused n) = Answer.Refused n
file_shown a = Answer.Nothing

-- "`releasable CENTS`: the most that `release P POSITION ..` would be accepted for now, 0 if none; refused 1, 2, 5".
abbrev pub releasable_shown : Result ℕ Refusal → Answer
releasable_shown (Ok cents) = Answer.Releasable cents
releasable_shown (Err r) = Answer.Refused (number_of r)

-- "special CENTS", or the number of the refusal.
abbrev pub guarantee_shown : Result ℕ Refusal → Answer
guarantee_shown (Ok cents) = Answer.Special cents
guarantee_shown (Err r) = Answer.Refused (number_of r)
