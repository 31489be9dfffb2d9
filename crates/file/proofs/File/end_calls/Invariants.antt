-- `file::File::end_calls` meets its contract. The invariant: the file is what the opening leaves of it after the calls that were passed.
-- Assumes nothing.
use mathlib.Core.Path.{◌≡◌}
use lib.ListN.{take}
use Rattle.file.specs.Ending.{calls_passed}
use Rattle.file.specs.Fields.{open_calls}
use Rattle.file.proofs.File.end_calls.Given as goal

abbrev pub invariant-loop-call : goal.invariant-loop-call
invariant-loop-call l = l.self ≡ calls_passed l.day.0 l.fn.self (take l.call-index (open_calls l.fn.self))
