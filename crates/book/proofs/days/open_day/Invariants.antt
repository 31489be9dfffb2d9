-- `book::days::open_day` meets its contract: the day is opened for the participants before the next one.
-- Assumes nothing.
use Rattle.book.proofs.Functions.DaysOpened.{Pass}
use Rattle.book.proofs.days.open_day.Given as goal

abbrev pub invariant-loop-participant : goal.invariant-loop-participant
invariant-loop-participant l = Pass l.participant l.initial.words l.words
