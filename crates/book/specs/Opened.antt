-- Words of a book in which a day is being opened, file by file. Paper 02, Ask 5: "one pass: for each opened day an admitted file is taken out of the
-- book once and put back once".
-- Assumes nothing.
use Rattle.std.specs.Prelude.{ℕ, suc, ◌≤◌, ◌≡◌, List, length}
use Rattle.file.specs.Sound.{Sound}
use Rattle.layout.specs.Words.{book_length, file_in_words, today_in, book_of_words, book_words}

-- The day after today may be opened for participant p: its file is as of today, whichever other files the day was opened for before.
pub record Openable (l : List ℕ) (p : ℕ) : Type 0 where
  pub long : length l ≡ book_length
  pub canonical : l ≡ book_words (book_of_words l)
  pub low : p ≤ 63
  pub within : suc (today_in l) ≤ 29219
  pub sound : Sound (today_in l) (file_in_words l p)
