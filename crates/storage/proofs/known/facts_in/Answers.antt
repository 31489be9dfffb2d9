-- `storage::known::facts_in` meets its contract: the kind that std tests is the number in bits 12 to 15 of the mode.
-- Assumes nothing.
use Rattle.storage.proofs.Modes.{regular_kind}
use Rattle.storage.proofs.known.facts_in.Goals as goal

pub returns : goal.returns
returns c = rw (regular_kind c.is_file.result c.args.found.now.mode c.is_file.ensures, c.len.ensures)
