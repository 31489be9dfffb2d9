-- What the view of a participant's file in the words of a book shows.
-- Assumes nothing.
use Rattle.std.specs.Prelude.{ℕ}
use Rattle.file.specs.declared.File.{File}
use Rattle.layout.specs.Words.{file_in_words, today_in}
use Rattle.book.specs.declared.view.FileView.{FileView}

-- The file, and today.
abbrev pub file_seen : FileView → File
file_seen v = file_in_words v.words.now v.participant

abbrev pub today_seen : FileView → ℕ
today_seen v = today_in v.words.now
