-- `book::days::open_days` meets its contract: as many days as were counted have been opened.
-- Assumes nothing.
use Rattle.book.proofs.Functions.DaysOpened.{Turn}
use Rattle.book.proofs.days.open_days.Given as goal

abbrev pub invariant-loop : goal.invariant-loop
invariant-loop l = Turn l.days l.counter l.initial.words l.words
