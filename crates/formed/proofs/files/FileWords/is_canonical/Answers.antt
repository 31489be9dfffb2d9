-- `is_canonical` meets its contract: the file's words are those that it is written in again.
-- Assumes nothing.
use borrow.Author.Rules.{rules}
use Rattle.formed.proofs.FileChecks.{canonical-decides}
use Rattle.formed.proofs.files.FileWords.is_canonical.Goals as goal

pub returns : goal.returns
returns c =
    let s = c.args.self in
    canonical-decides s.words.now _ _ s.at _ _ s.room (search rules) c.file_at.ensures c.put_file.ensures c.eq.ensures
