-- `report::csv::put_csv_rows`: the lines of the participants before this one are written.
-- Assumes nothing.
use Rattle.std.proofs.Common.{◌≡◌}
use Rattle.layout.specs.Words.{book_of_words}
use Rattle.printing.specs.Written.{followed}
use Rattle.report.specs.Csv.{csv_rows}
use Rattle.report.proofs.csv.put_csv_rows.Given as goal

abbrev pub invariant-loop-participant : goal.invariant-loop-participant
invariant-loop-participant l = l.out ≡ followed l.initial.out (csv_rows l.participant (book_of_words l.book))
