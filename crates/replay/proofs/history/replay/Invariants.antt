-- `replay::history::replay` meets its contract. The loop's invariant: what is written and the book are those of the first i calls, on the day
-- of the fresh book; each turn adds one call, whose answer is the reading's decision.
-- Assumes nothing.
use Rattle.replay.proofs.Replaying.{Turn, first_day}
use Rattle.replay.proofs.history.replay.Given as goal

abbrev pub invariant-loop-i : goal.invariant-loop-i
invariant-loop-i l = Turn l.calls l.figures l.files l.initial.out (first_day l.initial.book) l.first l.count l.i l.out l.book
