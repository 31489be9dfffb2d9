-- What an exported function asks of the words that a program in C lends it, and what it returns.
-- Assumes nothing.
use Rattle.std.specs.Prelude.{ℕ, ◌≡◌, Bool, cond, List, length, Result, Ok, Err}
use Rattle.file.specs.Answer.{Answer, refused, counted}
use Rattle.layout.specs.Words.{book_length, book_of_words}
use Rattle.layout.specs.WellFormed.{WellFormed}
use Rattle.formed.specs.Decides.{Decides}
use Rattle.formed.specs.Checks.{EarlierLayout}
use Rattle.clib.specs.declared.fault.Fault.{Fault}
use Rattle.clib.specs.declared.fault.Fault.TheVariants as Faults

-- What is asked: words that are as many as a book's are well formed. Of other words nothing is asked.
abbrev pub FormedIfBook : List ℕ → Type 0
FormedIfBook l = length l ≡ book_length → WellFormed l

-- What is returned, r, for the words l, of which m is left: the numbers of an answer. The answer to words of another length than a book's is
-- the refusal 100, and they are as they were. The answer to the words of a book, and the words left, are as `holds` has it.
pub record Returned {A : Type 0} (numbers : Answer → A) (l : List ℕ) (holds : Answer → List ℕ → Type 0) (r : A) (m : List ℕ) : Type 0 where
  pub answer : Answer
  pub shown : r ≡ numbers answer
  pub other : (length l ≡ book_length → ⊥) → (answer ≡ refused 100) × (m ≡ l)
  pub given : length l ≡ book_length → holds answer m

-- What holds of the answer to a call on words that are as many as a book's, where this holds of the book's own answer.
abbrev pub FromBook : {A E : Type 0} → (Result A E → Type 0) → Result A (Fault E) → Type 0
FromBook gives (Ok x) = gives (Ok x)
FromBook gives (Err Faults.OtherLength) = ⊥
FromBook gives (Err (Faults.Refused e)) = gives (Err e)

-- What a call on the lent words l gives, x, where m is left: nothing to words of another length than a book's, which are as they were, and to
-- the words of a book what the call itself gives.
pub record Lent {A E : Type 0} (l : List ℕ) (gives : Result A E → List ℕ → Type 0) (x : Result A (Fault E)) (m : List ℕ) : Type 0 where
  pub other : (length l ≡ book_length → ⊥) → (x ≡ Err Faults.OtherLength) × (m ≡ l)
  pub given : length l ≡ book_length → FromBook (λ y. gives y m) x

-- The question for today: the book's day, and every word as it was.
pub record TodayOf (l : List ℕ) (x : Answer) (m : List ℕ) : Type 0 where
  pub day : x ≡ counted (book_of_words l).today.0
  pub unchanged : m ≡ l

-- The check of words: 0 for words that are well formed, 101 for those that a book of the layout before was saved in, 100 for others.
pub record Checked (l : List ℕ) (r : ℕ) : Type 0 where
  pub test : Bool
  pub decides : Decides test (WellFormed l)
  pub earlier : Bool
  pub tells : Decides earlier (EarlierLayout l)
  pub shown : r ≡ cond test 0 (cond earlier 101 100)
