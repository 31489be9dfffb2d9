-- The numbers of the causes of refusal, from the table of paper 01 and its changes.
-- Assumes nothing.
use Rattle.std.specs.Prelude.{ℕ}
use Rattle.refusal.specs.declared.Refusal.{Refusal}
use Rattle.refusal.specs.declared.Refusal.TheVariants.{NoSuchParticipant, NotAdmitted, AdmittedAlready, NoSuchRole, NoSuchPosition, PositionFilled, PositionEmpty, AmountOutOfRange, LetterDays, FigureCount, OutOfRange, MonthOutOfRange, FifthCall, NotAnnualDays, MoreThanHeld, TooLittleCover, DayOutOfRange, TooFewRates, ListLengths, BatchTooShort, PartsMisplaced, WrongPart, RetiredRole, NoDeletionNow, UnderDeletion}

-- Each cause by its number.
abbrev pub number_of : Refusal → ℕ
-- the participant is above 63
number_of NoSuchParticipant = 1
-- the participant isn't admitted
number_of NotAdmitted = 2
-- the participant is admitted already
number_of AdmittedAlready = 3
-- the role is above 5
number_of NoSuchRole = 4
-- the position is above 7
number_of NoSuchPosition = 5
-- a lodging at a filled position
number_of PositionFilled = 6
-- a release at an empty position
number_of PositionEmpty = 7
-- "lodged or released amount outside 1 to 10^12"
number_of AmountOutOfRange = 8
-- "letter days against the rule"
number_of LetterDays = 9
-- "figures fewer than 5 or more than 16"
number_of FigureCount = 10
-- "a figure, rate, zero settlement or excess out of its range, a mark above 1"
number_of OutOfRange = 11
-- "month outside P − 14 to P − 2"
number_of MonthOutOfRange = 12
-- "the call would be a fifth open one"
number_of FifthCall = 13
-- an annual run outside 1 to 10 September
number_of NotAnnualDays = 14
-- "release above what is held, or a letter in part"
number_of MoreThanHeld = 15
-- the release would leave too little cover
number_of TooLittleCover = 16
-- the day is past the calendar, or before today
number_of DayOutOfRange = 17
-- "fewer than three usable rates in a list"
number_of TooFewRates = 18
-- more than 64 rates, or lists whose lengths don't agree
number_of ListLengths = 19
-- "file too short for its pairs or n outside 1 to 64"
number_of BatchTooShort = 20
-- "the parts don't follow on as said"
number_of PartsMisplaced = 21
-- "a wrong part length or a participant twice"
number_of WrongPart = 22
-- the role, 1, is no longer registered
number_of RetiredRole = 23
-- a deletion "outside August and September or already in the status"
number_of NoDeletionNow = 24
-- "annual run for such a file"
number_of UnderDeletion = 25
