-- `file::File::recorded` meets its contract. The invariant: the first places of the room hold the recorded totals of the months that were passed.
-- Assumes nothing.
use Prim.Native.Nat.{◌≤◌}
use mathlib.Core.Path.{◌≡◌}
use lib.ListN.{length, take}
use Rattle.file.specs.Totals.{total_at, totals_from}
use Rattle.file.proofs.File.recorded.Given as goal

abbrev pub invariant-loop-passed : goal.invariant-loop-passed
invariant-loop-passed l = record {
  long : length l.room ≡ 13;
  count : l.count ≤ l.passed;
  found : take l.count l.room ≡ totals_from (total_at l.self.totals) l.fn.first.0 l.passed;
}
