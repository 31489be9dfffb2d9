-- What a call given as six words gives, and what a list of such calls gives: the claim about a whole list of calls.
-- Assumes nothing.
use Rattle.std.specs.Prelude.{ℕ, ◌*◌, ◌/◌, ◌≤◌, ◌<◌, min, ◌≡◌, List, ◌++◌, length, drop, ℤ}
use Rattle.file.specs.Answer.{Answer}
use Rattle.layout.specs.Book.{Book}
use Rattle.layout.specs.Words.{book_of_words}
use Rattle.layout.specs.WellFormed.{WellFormed}
use Rattle.book.specs.Call.{Call}
use Rattle.book.specs.Rule.{Rule}
use Rattle.book.specs.Account.{fresh_book, fresh_answer, answer, step, run}
use Rattle.book.specs.Reading.Decisions.{events_of}
use Rattle.book.specs.Kept.{book_in}
use Rattle.book.specs.Life.{Life}
use Rattle.book.specs.Reached.{Reached}
use Rattle.replay.specs.Encoding.{history_up_to, seven_numbers, decided}

-- What call c, made under a rule on the book in the words l, gives: the numbers of its answer, and the words m that it leaves.
pub record GivenNumbers (rule : Rule) (l : List ℕ) (c : Call) (numbers : List ℤ) (m : List ℕ) : Type 0 where
  pub answered : numbers ≡ seven_numbers (answer rule (book_of_words l) c)
  pub left : book_of_words m ≡ step rule (book_of_words l) c
  -- the next call may be made
  pub formed : WellFormed m

-- How many calls are made: as many as have their six words, and room for their seven numbers.
abbrev pub call_count : List ℕ → List ℤ → ℕ
call_count calls out = min (length calls / 6) (length out / 7)

-- Demand 3, of the first n calls from a fresh book on day s, of which the first `first` are made under the old admission rule and the others
-- under the new one (paper 02, Ask 3): what was written, `before` being there until then, and the book b at the end.
pub record Replayed
    (s first n : ℕ)
    (calls : List ℕ)
    (figures : List ℤ)
    (files : List ℕ)
    (before after : List ℤ)
    (b : Book)
    : Type 0 where
  -- the numbers of each answer are those that the papers decide, call by call; what is past them is as it was
  pub written : after ≡ decided s first calls figures files n ++ drop (7 * n) before
  -- the book is that of the readings of the history, field by field
  pub kept : b ≡ book_in s (events_of s (history_up_to first calls figures files n))
  -- it is the book that the calls lead to, and the claim about the list of calls holds of it
  pub left : b ≡ run s (history_up_to first calls figures files n)
  pub life : Life s (history_up_to first calls figures files n)
  -- calls may go on
  pub reached : Reached b

-- What a list of calls from a fresh book on day s gives, with its first stretch of `first` calls, m being the words that the book is left in;
-- beside a refusal stands the fresh book of day 0, and nothing is written.
pub record ReplayedFrom
    (s first : ℕ)
    (calls : List ℕ)
    (figures : List ℤ)
    (files : List ℕ)
    (before after : List ℤ)
    (x : Answer)
    (m : List ℕ)
    : Type 0 where
  pub answered : x ≡ fresh_answer s
  pub replayed : s ≤ 29219 → Replayed s first (call_count calls before) calls figures files before after (book_of_words m)
  pub late : 29219 < s → (after ≡ before) × (book_of_words m ≡ fresh_book 0)
  -- a call may be made on the words
  pub formed : WellFormed m
