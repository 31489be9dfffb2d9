-- `storage::texts::show` meets its contract: the bytes before the loop's place are shown.
-- Assumes nothing.
use Rattle.std.proofs.Common.{rules, arith, get_or}
use Rattle.std.proofs.lemmas.List.{get_or_default}
use Rattle.std.proofs.lemmas.List.Edits.{map_over_more}
use Rattle.storage.specs.Texts.{shown_byte}
use Rattle.storage.proofs.texts.show.Goals as goal

pub loop-byte-preserved : goal.loop-byte-preserved
loop-byte-preserved c =
    rw c.shown.ensures
    (map_over_more shown_byte _ _ _ (get_or c.loop-byte.text c.loop-byte.byte-index 0) (omega arith) c.loop-byte.invariant (search (rules, get_or_default)))
