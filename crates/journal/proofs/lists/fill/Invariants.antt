-- `journal::lists::fill` meets its contract. The loop's invariant: the numbers that are left, written from place i on, give what all of them give.
-- Assumes nothing.
use Rattle.std.proofs.Common.{◌-◌, length}
use Rattle.words.specs.Words.{left}
use Rattle.journal.specs.Fields.{more, next_numbers}
use Rattle.journal.proofs.ListLaws.{Filling}
use Rattle.journal.proofs.lists.fill.Given as goal

abbrev pub invariant-loop-i : goal.invariant-loop-i
invariant-loop-i l =
    Filling (next_numbers l.due (length l.fn.numbers) l.count (more (left l.fn.words)))
    (next_numbers l.due (length l.fn.numbers - l.i) (l.count - l.i) (more (left l.words))) l.fn.numbers l.numbers l.i
