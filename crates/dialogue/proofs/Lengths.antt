-- The most bytes of a number and of an answer.
-- Assumes nothing.
use Rattle.std.proofs.Common.{ℕ, zero, suc, ◌+◌, ◌*◌, ◌/◌, ◌%◌, ◌<◌, ◌≤◌, true, false, ltb, [], ◌∷◌, length, ℤ, pos, negsuc, arith, length-append, ltb-false, ltb-true}
use lib.Signed.{mag}
use Rattle.laws.specs.Cases.{split}
use Rattle.calendar.specs.Dates.{date_of}
use Rattle.calendar.specs.declared.date.Date.{Date}
use Rattle.std.specs.Prelude.{Option, Some, None}
use Rattle.journal.specs.declared.Reason.{Reason}
use Rattle.printing.specs.declared.Answer.{Answer}
use Rattle.printing.specs.Decimals.{decimal, integer, spaced, joined}
use Rattle.printing.specs.WrittenLaws.{decimal_step, decimal-small}
use Rattle.printing.specs.Dates.{dated_text, date_text}
use Rattle.printing.specs.Answers.{reason_text, answer_words, answer_line}
use Rattle.printing.proofs.ColumnLaws.{digits-count}
use Rattle.dialogue.specs.Said.{Small, SmallNumbers}

-- ten to the power of k
abbrev tens : ℕ → ℕ
tens zero = 1
tens (suc k) = 10 * tens k

-- A number below 10^(k + 1) has at most k + 1 digits.
pub decimal-short : (k n : ℕ) → n < tens (suc k) → length (decimal n) ≤ suc k
decimal-short zero n h = rw (decimal-small n (omega arith)) (omega arith)
decimal-short (suc k) n h =
    split (ltb n 10) (λ t. rw (decimal-small n (ltb-true n 10 t)) (omega arith))
    (λ t.
    rw (decimal_step n (ltb-false n 10 t))
    (omega (arith, length-append (decimal (n / 10)) ((48 + n % 10) ∷ []), decimal-short k (n / 10) (omega arith))))

pub number_short : (n : ℕ) → Small n → length (decimal n) ≤ 20
number_short n h = decimal-short 19 n (omega arith)

pub integer-short : (z : ℤ) → Small (mag z) → length (integer z) ≤ 21
unfolding integer
integer-short (pos n) h = omega (arith, number_short n h)
integer-short (negsuc n) h = omega (arith, decimal-short 19 (suc n) (omega arith))

reason-short : (e : Reason) → length (reason_text e) ≤ 41
reason-short Reason.ControlByte = omega arith
reason-short e = omega arith

dated-short : (d : Option Date) → length (dated_text d) ≤ 10
dated-short (Some x) =
    simp length-append (omega (arith, digits-count 4 x.year, digits-count 2 x.month, digits-count 2 x.day))
dated-short None = omega arith

day-short : (d : ℕ) → length (date_text d) ≤ 10
unfolding date_text
day-short d = dated-short (date_of d)

-- Every answer without its newline has at most 135 bytes.
pub said_short : (a : Answer) → SmallNumbers a → length (answer_line a) ≤ 135
unfolding answer_line answer_words joined spaced
said_short Answer.Nothing h = omega arith
said_short Answer.Done h = omega arith
said_short (Answer.Refused n) h = simp length-append (omega (arith, number_short n h))
said_short (Answer.Called e a d) h =
    simp length-append (omega (arith, number_short e h.0, number_short a h.1, number_short d.0 h.2))
said_short (Answer.Covered e) h = simp length-append (omega (arith, integer-short e h))
said_short (Answer.Recorded e) h = simp length-append (omega (arith, integer-short e h))
said_short (Answer.Annual a m) h = simp length-append (omega (arith, number_short a h.0, number_short m h.1))
said_short (Answer.Opened d) h = simp length-append (omega (arith, number_short d h))
said_short (Answer.Statement f c s d m n) h =
    simp length-append
    (omega
    (arith, number_short f h.0, number_short c h.1, number_short s h.2, number_short d h.3, number_short m h.4, number_short n h.5))
said_short (Answer.Calls n) h = simp length-append (omega (arith, number_short n h))
said_short (Answer.Special c) h = simp length-append (omega (arith, number_short c h))
said_short (Answer.Releasable c) h = simp length-append (omega (arith, number_short c h))
said_short (Answer.Today d) h = simp length-append (omega (arith, number_short d.0 h, day-short d.0))
said_short (Answer.Batch n) h = simp length-append (omega (arith, number_short n h))
said_short (Answer.RefusedPair n i) h = simp length-append (omega (arith, number_short n h.0, number_short i h.1))
said_short (Answer.Deletion a true) h = simp length-append (omega (arith, number_short a h, number_short 1 (omega arith)))
said_short (Answer.Deletion a false) h = simp length-append (omega (arith, number_short a h, number_short 0 (omega arith)))
said_short (Answer.Error l e) h = simp length-append (omega (arith, number_short l h, reason-short e))
