-- `file::opening::empty_lapsed` meets its contract. The invariant: the first slots are emptied as the contract says, the others are as they came.
-- Assumes nothing.
use mathlib.Core.Path.{◌≡◌}
use Rattle.laws.specs.Places.{up_to}
use Rattle.file.proofs.AtOpening.{slot_at}
use Rattle.file.proofs.opening.empty_lapsed.Given as goal

abbrev pub invariant-loop-slot : goal.invariant-loop-slot
invariant-loop-slot l = l.slot-items ≡ up_to (slot_at l.day.0) l.slot-index l.initial.slot-items
