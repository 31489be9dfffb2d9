-- `book::batches::judge` meets its contract. The loop's invariant: the answers of the parts before i are kept, and none of them is refused.
-- Assumes nothing.
use Prim.Native.Nat.{◌≤◌}
use lib.ListN.{length}
use Rattle.layout.specs.Words.{book_of_words}
use Rattle.book.specs.Batches.{Judges}
use Rattle.book.proofs.batches.judge.Given as goal

abbrev pub invariant-loop-i : goal.invariant-loop-i
invariant-loop-i l = (l.parts ≤ length l.answers) × Judges (book_of_words l.words) l.file l.i-counter l.answers
