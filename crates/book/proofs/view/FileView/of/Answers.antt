-- `book::view::FileView::of` meets its contract: the words of a book are well formed, so that the file read is within its bounds.
-- Assumes nothing.
use borrow.Author.Rules.{rules}
use Rattle.book.proofs.Functions.Viewing.{view-sound, view-long}
use Rattle.book.proofs.view.FileView.of.Goals as goal

pub invariant_of-result : goal.invariant_of-result
invariant_of-result c = record { long = search (view-long, rules); low = search rules; sound = search (view-sound, rules) }
