-- `storage::whole::fill` meets its contract: each turn reads into what is left of the slice. The measure is what is left.
-- Assumes nothing.
use Rattle.std.proofs.Common.{◌≡◌, ◌-◌, ◌≤◌, length}
use Rattle.storage.proofs.whole.fill.Given as goal

abbrev pub invariant-loop-done : goal.invariant-loop-done
invariant-loop-done l = (length l.buffer ≡ length l.initial.buffer) × (l.done ≤ length l.buffer)

abbrev pub decreases-loop-done : goal.decreases-loop-done
decreases-loop-done l = length l.buffer - l.done
