-- `batch::checks::first_wrong` meets its contract. The loop's invariant: none of the first i parts is wrong, and their participants are marked.
-- Assumes nothing.
use Rattle.batch.proofs.CheckLaws.{Passed, Seen}
use Rattle.batch.specs.Batch.{wrong_part}
use Rattle.batch.proofs.checks.first_wrong.Given as goal

abbrev pub invariant-loop-i : goal.invariant-loop-i
invariant-loop-i l = Seen l.file l.i l.seen × Passed (wrong_part l.file) l.i
