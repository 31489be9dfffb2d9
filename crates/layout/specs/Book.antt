-- The book that words stand for (paper 01, 'The calls').
-- Assumes nothing.
use Rattle.std.specs.Prelude.{List}
use Rattle.calendar.specs.declared.Day.{Day}
use Rattle.file.specs.declared.File.{File}

-- 64 files, participant P's at place P; and today. Paper 02, Ask 6: a count of calls made is "in each file", and none stands beside them.
pub record Book : Type 0 where
  pub files : List File
  pub today : Day
