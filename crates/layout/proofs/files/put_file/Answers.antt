-- `layout::files::put_file` meets its contract: the words of the file's own and its rows are written one after another.
-- Assumes nothing.
use borrow.Author.Rules.{rules}
use Rattle.layout.proofs.FileLaws.{put_is}
use Rattle.layout.proofs.files.put_file.Goals as goal

pub returns : goal.returns
returns c = search (put_is, rules)
