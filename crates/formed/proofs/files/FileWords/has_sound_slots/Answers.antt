-- `has_sound_slots` meets its contract: each slot is tested.
-- Assumes nothing.
use mathlib.Core.Path.{refl}
use Rattle.std.proofs.Common.{rules}
use Rattle.formed.specs.Checks.{SlotAt}
use Rattle.formed.proofs.Decided.{all-decides}
use Rattle.formed.proofs.PartLaws.{slot-decides}
use Rattle.formed.proofs.files.FileWords.has_sound_slots.Goals as goal

pub returns : goal.returns
returns c =
    let s = c.args.self in
    all-decides (SlotAt s.words.now s.at) 8 _ _ _ c.all.ensures.ran refl (λ k b q e. search (slot-decides, rules))
