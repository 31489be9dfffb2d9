-- What a line of the journal gives on a book in lent words.
-- Assumes nothing.
use Rattle.std.specs.Prelude.{ℕ, ◌≡◌, false, List}
use Rattle.layout.specs.Words.{book_of_words}
use Rattle.layout.specs.WellFormed.{WellFormed}
use Rattle.book.specs.Rule.{Rule}
use Rattle.printing.specs.declared.Answer.{Answer}
use Rattle.answering.specs.Asked.{Asked, book_after, Answered}
use Rattle.answering.specs.Kept.{takes}

-- What line number n gives on the words l under a rule: the answer x and the words m that it leaves.
pub record AnsweredWords (rule : Rule) (l : List ℕ) (n : ℕ) (a : Asked) (x : Answer) (m : List ℕ) : Type 0 where
  -- the answer, and the book that the line leaves
  pub given : Answered rule (book_of_words l) n a x (book_of_words m)
  -- the next line may be answered
  pub formed : WellFormed m
  -- "the book is as before", in every word: where the line leaves the book, as a question does
  pub unchanged : book_after rule (book_of_words l) a ≡ book_of_words l → m ≡ l
  -- and where its answer is a refusal or an error, or it has none
  pub refused : takes x ≡ false → m ≡ l
