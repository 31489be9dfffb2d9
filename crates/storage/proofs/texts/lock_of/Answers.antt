-- `storage::texts::lock_of` meets its contract: the buffer begins with the name and the ending.
-- Assumes nothing.
use Rattle.std.proofs.Common.{rules}
use Rattle.storage.proofs.Names.{lock-name}
use Rattle.storage.proofs.texts.lock_of.Goals as goal

pub returns : goal.returns
returns c = search (lock-name, rules)
