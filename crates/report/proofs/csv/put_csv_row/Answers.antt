-- `report::csv::put_csv_row` meets its contract: a file in the words of a book is sound today.
-- Assumes nothing.
use Rattle.report.proofs.FileLaws.{sound_there}
use Rattle.report.proofs.csv.put_csv_row.Goals as goal

pub put_values-requires : goal.put_values-requires
put_values-requires c = sound_there _ _ _ _ c.book.invariant (rw (← c.book.view_is) at c.admitted_file-file.ensures) c.today-today.ensures
