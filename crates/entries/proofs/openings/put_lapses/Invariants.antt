-- `entries::openings::put_lapses`: the lines of the letters that lapse at the places before this one are written.
-- Assumes nothing.
use Rattle.std.proofs.Common.{◌≡◌, []}
use Rattle.printing.specs.Written.{followed}
use Rattle.entries.specs.Lines.{lines_of}
use Rattle.entries.specs.Openings.{lapses_below}
use Rattle.entries.proofs.openings.put_lapses.Given as goal

abbrev pub invariant-loop-k : goal.invariant-loop-k
invariant-loop-k l = l.out ≡ followed l.initial.out (lines_of l.day.0 [] (lapses_below l.k l.file l.day.0))
