-- `journal::lists::special` meets its contract. The loop's invariant: the lists that are left, and their lengths, give what all of them give.
-- Assumes nothing.
use Rattle.std.proofs.Common.{◌-◌, length, drop, replicate}
use Rattle.words.specs.Words.{left}
use Rattle.journal.specs.Fields.{more, lists_of}
use Rattle.journal.specs.Grammar.{are_marks}
use Rattle.journal.proofs.ListLaws.{Listing}
use Rattle.journal.proofs.lists.special.Given as goal

abbrev pub invariant-loop-i : goal.invariant-loop-i
invariant-loop-i l =
    Listing (lists_of are_marks (length l.fn.numbers) (more (left l.fn.words)))
    (lists_of (drop l.i are_marks) (length l.fn.numbers - l.end) (more (left l.words))) l.fn.numbers l.numbers l.end (replicate 7 0) l.lengths l.i
