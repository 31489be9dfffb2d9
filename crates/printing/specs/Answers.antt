-- 'The journal': "Answers, one line for each call line".
-- Assumes nothing.
use Rattle.std.specs.Prelude.{cond, ℕ, List, [], ◌∷◌}
use Rattle.words.specs.Text.{text}
use Rattle.journal.specs.declared.Reason.{Reason}
use Rattle.printing.specs.Decimals.{decimal, integer, joined}
use Rattle.printing.specs.Dates.{date_text}
use Rattle.printing.specs.declared.Answer.{Answer}

-- "REASON is a few words for people".
abbrev pub reason_text : Reason → List ℕ
reason_text Reason.ControlByte = text "a control byte"
reason_text Reason.NoCall = text "no such call"
reason_text Reason.TooFewWords = text "too few words"
reason_text Reason.TooManyWords = text "too many words"
reason_text Reason.NotNumber = text "not a number"
reason_text Reason.NotDay = text "not a day"
reason_text Reason.NotMonth = text "not a month"
reason_text Reason.NotRole = text "not a role"
reason_text Reason.NotCashOrLetter = text "neither cash nor letter"
reason_text Reason.NotHex = text "not two hexadecimal digits for each byte"
reason_text Reason.TooLong = text "line too long"
reason_text Reason.FreshLater = text "fresh is not the first call"
reason_text Reason.NoNewline = text "line without newline, not taken"
reason_text Reason.ReadOnly = text "only questions, the journal is read"

-- The words of an answer; "`releasable CENTS`" and "`today DAY DATE`".
unfoldable pub answer_words : Answer → List (List ℕ)
answer_words Answer.Done = text "done" ∷ []
answer_words (Answer.Refused n) = text "refused" ∷ decimal n ∷ []
answer_words (Answer.Called e a d) = text "called" ∷ decimal e ∷ decimal a ∷ decimal d.0 ∷ []
answer_words (Answer.Covered e) = text "covered" ∷ integer e ∷ []
answer_words (Answer.Recorded e) = text "recorded" ∷ integer e ∷ []
answer_words (Answer.Annual a m) = text "annual" ∷ decimal a ∷ decimal m ∷ []
answer_words (Answer.Opened d) = text "opened" ∷ decimal d ∷ []
answer_words (Answer.Statement f c s d m n) =
    text "statement" ∷ decimal f ∷ decimal c ∷ decimal s ∷ decimal d ∷ decimal m ∷ decimal n ∷ []
answer_words (Answer.Calls n) = text "calls" ∷ decimal n ∷ []
answer_words (Answer.Special c) = text "special" ∷ decimal c ∷ []
answer_words (Answer.Releasable c) = text "releasable" ∷ decimal c ∷ []
answer_words (Answer.Today d) = text "today" ∷ decimal d.0 ∷ date_text d.0 ∷ []
answer_words (Answer.Batch n) = text "batch" ∷ decimal n ∷ []
answer_words (Answer.RefusedPair n i) = text "refused" ∷ decimal n ∷ decimal i ∷ []
answer_words (Answer.Deletion a c) = text "deletion" ∷ decimal a ∷ decimal (cond c 1 0) ∷ []
answer_words (Answer.Error l e) = text "error" ∷ decimal l ∷ reason_text e ∷ []
answer_words Answer.Nothing = []

-- An answer as a line.
unfoldable pub answer_line : Answer → List ℕ
answer_line a = joined (answer_words a)
