-- `report::file_text::put_file` meets its contract: a file in the words of a book is sound today.
-- Assumes nothing.
use Rattle.report.proofs.FileLaws.{sound_there}
use Rattle.report.proofs.file_text.put_file.Goals as goal

pub put_lines-requires : goal.put_lines-requires
put_lines-requires c = sound_there _ _ _ _ c.requires c.admitted_file-file.ensures c.today-today.ensures
