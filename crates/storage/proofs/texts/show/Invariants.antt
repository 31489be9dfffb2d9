-- `storage::texts::show` meets its contract: the bytes before the loop's place are shown.
-- Assumes nothing.
use Rattle.std.proofs.Common.{◌≡◌, ◌++◌, map, take, drop}
use Rattle.storage.specs.Texts.{shown_byte}
use Rattle.storage.proofs.texts.show.Given as goal

abbrev pub invariant-loop-byte : goal.invariant-loop-byte
invariant-loop-byte l = l.text ≡ map shown_byte (take l.byte-index l.initial.text) ++ drop l.byte-index l.initial.text
