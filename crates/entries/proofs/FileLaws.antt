-- A participant's file in the words of a book.
-- Assumes nothing.
use Rattle.std.proofs.Common.{◌≡◌, ℕ, ◌≤◌, ◌<◌, List, sym}
use Rattle.file.specs.Admit.{no_file}
use Rattle.layout.specs.Words.{book_of_words, file_in_words}
use Rattle.book.specs.Account.{file_at}
use Rattle.book.proofs.Functions.OnWords.{file-there, none-there}

pub no_such : (l : List ℕ) (p : ℕ) → 63 < p → no_file ≡ file_at (book_of_words l) p
no_such l p h = sym (none-there l p h)

pub such : (l : List ℕ) (p : ℕ) → p ≤ 63 → file_in_words l p ≡ file_at (book_of_words l) p
such l p h = sym (file-there l p h)
