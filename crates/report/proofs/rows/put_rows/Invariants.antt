-- `report::rows::put_rows`: the lines of the participants before this one are written.
-- Assumes nothing.
use Rattle.std.proofs.Common.{◌≡◌}
use Rattle.layout.specs.Words.{book_of_words}
use Rattle.printing.specs.Written.{followed}
use Rattle.report.specs.Table.{rows}
use Rattle.report.proofs.rows.put_rows.Given as goal

abbrev pub invariant-loop-participant : goal.invariant-loop-participant
invariant-loop-participant l = l.out ≡ followed l.initial.out (rows l.participant (book_of_words l.book))
