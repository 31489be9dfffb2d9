-- `storage::texts::process_in` meets its contract: what is left of the text gives, behind the digits taken, what the whole text gives.
-- Assumes nothing.
use Rattle.std.proofs.Common.{◌≡◌, drop}
use Rattle.storage.specs.Texts.{process_from}
use Rattle.storage.proofs.texts.process_in.Given as goal

abbrev pub invariant-loop-byte : goal.invariant-loop-byte
invariant-loop-byte l = process_from l.number (drop l.byte-index l.text) ≡ process_from 0 l.text
