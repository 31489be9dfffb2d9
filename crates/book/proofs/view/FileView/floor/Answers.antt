-- `book::view::FileView::floor` meets its contract: the words read are the amounts of the floor.
-- Assumes nothing.
use borrow.Author.Rules.{rules}
use Rattle.file.specs.Fields.{open_calls}
use Rattle.file.specs.Release.{release_floor}
use Rattle.layout.specs.Files.{file_of_words}
use Rattle.book.proofs.view.FileView.floor.Goals as goal

pub returns : goal.returns
unfolding file_of_words release_floor open_calls
returns c = search rules
