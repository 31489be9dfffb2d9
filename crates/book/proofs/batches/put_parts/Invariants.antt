-- `book::batches::put_parts` meets its contract. The loop's invariant: the book is the one that the first i parts were settled on.
-- Assumes nothing.
use mathlib.Core.Path.{◌≡◌}
use Rattle.layout.specs.Words.{book_of_words}
use Rattle.layout.specs.WellFormed.{WellFormed}
use Rattle.book.specs.Batches.{made_parts}
use Rattle.book.proofs.batches.put_parts.Given as goal

abbrev pub invariant-loop-i : goal.invariant-loop-i
invariant-loop-i l = WellFormed l.words × (book_of_words l.words ≡ made_parts (book_of_words l.initial.words) l.file l.i)
