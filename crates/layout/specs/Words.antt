-- A book in 6,210 words: the number of this layout, today, and the 64 files.
-- Assumes nothing.
use Rattle.std.specs.Prelude.{ℕ, ◌+◌, ◌*◌, List, ◌∷◌, get_or}
use Rattle.laws.specs.Lists.{table}
use Rattle.file.specs.declared.File.{File}
use Rattle.layout.specs.Book.{Book}
use Rattle.layout.specs.Parts.{number_of}
use Rattle.layout.specs.Files.{file_of_words, words_at, flat, file_words}

-- How many words a book has.
abbrev pub book_length : ℕ
book_length = 6210

-- The number that the first word of a book has: another layout will have another. That of before paper 02, Ask 6 was 1, and its books had 6,147 words.
abbrev pub layout_number : ℕ
layout_number = 2

-- The place behind which participant p's file stands, at the 97 words from place + 1 on.
abbrev pub place : ℕ → ℕ
place p = 1 + 97 * p

-- Participant p's file.
abbrev pub file_in_words : List ℕ → ℕ → File
file_in_words l p = file_of_words (words_at l (place p))

-- Today.
abbrev pub today_in : List ℕ → ℕ
today_in l = number_of (get_or l 1 0)

-- The book that words stand for.
unfoldable pub book_of_words : List ℕ → Book
book_of_words l = record { files = table 64 (λ p. file_in_words l p); today = record { 0 = today_in l } }

-- The words of a book.
unfoldable pub book_words : Book → List ℕ
book_words b = layout_number ∷ b.today.0 ∷ flat file_words b.files
