-- What stands behind an answer for people: "behind the answer's line of today, before its newline".
-- Assumes nothing.
use Rattle.std.specs.Prelude.{ℕ, suc, Bool, cond, List, [], ◌∷◌, ◌++◌, take, get_or, eqb, ℤ, pos, negsuc}
use Rattle.words.specs.Text.{text}
use Rattle.words.specs.Bytes.{some}
use Rattle.printing.specs.declared.Answer.{Answer}
use Rattle.printing.specs.Decimals.{decimal}
use Rattle.printing.specs.Columns.{fixed}
use Rattle.printing.specs.Dates.{date_text}
use Rattle.wording.specs.WrongWord.{wrong_word}

-- Why a call is refused, in one clause, in the order of the causes' numbers, from 0, which none has.
unfoldable pub causes : List (List ℕ)
causes =
    text ""
    ∷ text "there is no participant above 63"
    ∷ text "the participant is not admitted"
    ∷ text "the participant is admitted already"
    ∷ text "there is no role above 5"
    ∷ text "there is no position above 7"
    ∷ text "the position is filled"
    ∷ text "the position is empty"
    ∷ text "the amount is outside 1 to 10^12 cents"
    ∷ text "the letter's days are against the rule"
    ∷ text "there are fewer than 5 or more than 16 figures"
    ∷ text "a figure, rate, settlement, excess or mark is out of range"
    ∷ text "the month does not lie 2 to 14 months before today's"
    ∷ text "the call would be a fifth open one"
    ∷ text "an annual run is made only from 1 to 10 September"
    ∷ text "more is released than is held, or a letter in part"
    ∷ text "too little cover would be left"
    ∷ text "the day is above 29219, or before today"
    ∷ text "a list has fewer than three usable rates"
    ∷ text "a list is too long, or two lists differ in length"
    ∷ text "the file is too short for its pairs, or has none or over 64"
    ∷ text "a part does not begin where the one before it ended"
    ∷ text "a part's length is wrong, or its participant stands twice"
    ∷ text "role 1, self-supplied, is retired"
    ∷ text "deletion is in August and September only, and once"
    ∷ text "the participant is under deletion: it has no annual run"
    ∷ []

-- The clause of a cause's number; nothing for a number that no cause has.
unfoldable pub cause_text : ℕ → List ℕ
cause_text n = get_or causes n []

-- A clause behind two blanks, and what stands behind it; nothing where there is no clause.
unfoldable pub because : List ℕ → List ℕ → List ℕ
because [] t = []
because (b ∷ clause) t = 32 ∷ 32 ∷ b ∷ (clause ++ t)

-- "refused N -> two blanks and why".
unfoldable pub why_refused : ℕ → List ℕ → List ℕ
why_refused n t = because (cause_text n) t

-- The pair of a batch that a refusal concerns.
unfoldable pub of_pair : ℕ → List ℕ
of_pair i = text " (pair " ++ decimal i ++ text ", counted from 0)"

-- An amount of cents in euros, with a minus where it is below zero.
unfoldable pub euros_of : ℤ → List ℕ
euros_of (pos n) = fixed 2 n
euros_of (negsuc n) = 45 ∷ fixed 2 (suc n)

-- A label and an amount in euros.
unfoldable pub labelled : List ℕ → ℕ → List ℕ
labelled label cents = label ++ fixed 2 cents

-- A count and its label.
unfoldable pub counted : List ℕ → ℕ → List ℕ → List ℕ
counted before n label = before ++ decimal n ++ label

-- "called E ASKED LAST": the month's total, what is to be lodged, and by when.
unfoldable pub called_text : ℕ → ℕ → ℕ → List ℕ
called_text total asked last = labelled (text "  total ") total ++ labelled (text ", lodge ") asked ++ text " by " ++ date_text last

-- "covered E" and "recorded E": the month's total.
unfoldable pub total_text : ℤ → List ℕ
total_text total = text "  total " ++ euros_of total

-- "annual A M": the next amount, and how many months it is of.
unfoldable pub annual_text : ℕ → ℕ → List ℕ
annual_text amount months = labelled (text "  next amount ") amount ++ counted (text " from ") months (text " months")

-- "deletion A C": the amount, and whether it was called.
unfoldable pub deletion_text : ℕ → Bool → List ℕ
deletion_text amount is_called = labelled (text "  amount ") amount ++ cond is_called (text ", called") (text ", not called")

-- "statement ..": firm amount, cover, shortfall, days charged, charge, calls made.
unfoldable pub statement_text : ℕ → ℕ → ℕ → ℕ → ℕ → ℕ → List ℕ
statement_text firm cover shortfall days mills calls =
    labelled (text "  firm ") firm
    ++ labelled (text ", cover ") cover
    ++ labelled (text ", shortfall ") shortfall
    ++ counted (text ", ") days (text " days charged, charge ")
    ++ fixed 5 mills
    ++ counted (text ", ") calls (text " calls made")

-- "where that word has a comma" what is to be written in its place.
unfoldable pub comma_hint : List ℕ → List ℕ
comma_hint w = cond (some (λ b. eqb b 44) w) (text "  no comma: whole cents, or euros as 20000.00") []

-- "where a word is wrong, : WORD directly behind the reason", at most 40 bytes of it.
unfoldable pub word_text : List ℕ → List ℕ
word_text [] = []
word_text (b ∷ w) = text ": " ++ take 40 (b ∷ w) ++ comma_hint (b ∷ w)

-- What stands behind the answer to a line; "everything else: nothing".
unfoldable pub wording : Answer → List ℕ → List ℕ
wording (Answer.Refused n) line = why_refused n []
wording (Answer.RefusedPair n i) line = why_refused n (of_pair i)
wording (Answer.Called e a d) line = called_text e a d.0
wording (Answer.Covered e) line = total_text e
wording (Answer.Recorded e) line = total_text e
wording (Answer.Annual a m) line = annual_text a m
wording (Answer.Statement f c s d m n) line = statement_text f c s d m n
wording (Answer.Special c) line = labelled (text "  ") c
wording (Answer.Releasable c) line = labelled (text "  ") c
wording (Answer.Deletion a c) line = deletion_text a c
wording (Answer.Error l e) line = word_text (wrong_word e line)
wording a line = []
