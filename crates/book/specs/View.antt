-- What refuses a call on a participant's file before the call's own causes.
-- Assumes nothing.
use Rattle.std.specs.Prelude.{ℕ, ◌≡◌, List}
use Rattle.refusal.specs.declared.Refusal.{Refusal}
use Rattle.refusal.specs.Numbers.{number_of}
use Rattle.file.specs.Answer.{Answer, refused}
use Rattle.layout.specs.Words.{book_of_words}
use Rattle.book.specs.Account.{file_at, if_numbered, if_admitted}

-- Cause 1 or 2 refuses participant p, whatever the call's own causes would answer.
abbrev pub RefusesAll : List ℕ → ℕ → Refusal → Type 0
RefusesAll l p r = (x : Answer) → refused (number_of r) ≡ if_numbered p (if_admitted (file_at (book_of_words l) p) x)
