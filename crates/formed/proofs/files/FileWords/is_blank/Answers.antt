-- `is_blank` meets its contract: the file's words are compared with zeros.
-- Assumes nothing.
use Rattle.formed.proofs.FileChecks.{blank-decides}
use Rattle.formed.proofs.files.FileWords.is_blank.Goals as goal

pub returns : goal.returns
returns c = let s = c.args.self in blank-decides s.words.now s.at _ s.room c.eq.ensures
