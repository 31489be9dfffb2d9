-- Which words are a book: those that a saved book must be before it is used.
-- Assumes nothing.
use Rattle.std.specs.Prelude.{◌≤◌, ◌≡◌, ℕ, false, List, length}
use Rattle.laws.specs.Lists.{All}
use Rattle.file.specs.declared.File.{File}
use Rattle.file.specs.Admit.{no_file}
use Rattle.file.specs.Sound.{Sound}
use Rattle.layout.specs.Book.{Book}
use Rattle.layout.specs.Words.{book_length, book_of_words, book_words}

-- A file that isn't admitted holds nothing.
abbrev pub BlankUnlessAdmitted : File → Type 0
BlankUnlessAdmitted f = f.admitted ≡ false → f ≡ no_file

-- The bounds of a book's quantities: today lies in the calendar, and there are 64 files, each within its bounds today.
pub record SoundBook (b : Book) : Type 0 where
  pub day : b.today.0 ≤ 29219
  pub many : length b.files ≡ 64
  pub files : All (Sound b.today.0) b.files
  pub blank : All BlankUnlessAdmitted b.files

-- Well-formed words: they are the words of the book that they stand for, so that one book has one list of words, and that book is within its
-- bounds.
pub record WellFormed (l : List ℕ) : Type 0 where
  pub long : length l ≡ book_length
  pub canonical : l ≡ book_words (book_of_words l)
  pub sound : SoundBook (book_of_words l)
