-- What a public call gives on a book in lent words.
-- Assumes nothing.
use Rattle.std.specs.Prelude.{ℕ, ◌≡◌, false, List}
use Rattle.file.specs.Answer.{Answer, accepted}
use Rattle.layout.specs.Words.{book_of_words}
use Rattle.layout.specs.WellFormed.{WellFormed}
use Rattle.book.specs.Call.{Call}
use Rattle.book.specs.Reached.{Given, GivenFirst, Begun}

-- What call c on the words l gives: its answer x and the words m that it leaves.
pub record GivenWords (l : List ℕ) (c : Call) (x : Answer) (m : List ℕ) : Type 0 where
  -- the call's answer, and the book that it leaves
  pub given : Given (book_of_words l) c x (book_of_words m)
  -- the next call may be made
  pub formed : WellFormed m
  -- "Left as it was": every word, where the call is refused
  pub unchanged : accepted x ≡ false → m ≡ l

-- The same of a call of a first stretch, made under the old admission rule (paper 02, Ask 3).
pub record GivenFirstWords (l : List ℕ) (c : Call) (x : Answer) (m : List ℕ) : Type 0 where
  pub given : GivenFirst (book_of_words l) c x (book_of_words m)
  pub formed : WellFormed m
  pub unchanged : accepted x ≡ false → m ≡ l

-- What asking for a fresh book on day d gives: its answer x and the words m that it leaves, whatever they were.
pub record BegunWords (d : ℕ) (x : Answer) (m : List ℕ) : Type 0 where
  pub begun : Begun d x (book_of_words m)
  -- the next call may be made
  pub formed : WellFormed m
