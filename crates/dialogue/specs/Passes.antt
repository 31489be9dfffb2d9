-- A line of a journal made again but for the days that it opens, and those days opened one by one.
-- Assumes nothing.
use Rattle.std.specs.Prelude.{◌≡◌, ℕ, zero, suc, ◌+◌, ◌≤◌, cond, List, ltb}
use Rattle.layout.specs.Book.{Book}
use Rattle.layout.specs.Words.{book_of_words}
use Rattle.layout.specs.WellFormed.{WellFormed}
use Rattle.book.specs.Call.{advance}
use Rattle.book.specs.Rule.{Rule}
use Rattle.book.specs.Account.{open_day, open_days}
use Rattle.journal.specs.declared.Request.{Request}
use Rattle.printing.specs.declared.Answer.{Answer}
use Rattle.answering.specs.Asked.{Asked, call, answer_to, book_after}
use Rattle.answering.specs.Kept.{takes, refuses}
use Rattle.dialogue.specs.declared.Place.{Place}
use Rattle.dialogue.specs.declared.passes.Made.{Made}
use Rattle.dialogue.specs.Asks.{request_of, asks, rule_at}
use Rattle.dialogue.specs.Turns.{next, answer_of, ends_stretch, further, after}
use Rattle.dialogue.specs.Answers.{state_of}
use Rattle.dialogue.specs.Dialogue.{replaying}

-- How many days an answer says were opened.
abbrev pub opened_in : Answer → ℕ
opened_in (Answer.Opened n) = n
opened_in x = 0

-- How many days are to be opened for a request with this answer: "the smaller of B and T − t", as an accepted advance answers; for any other none.
abbrev pub days_of : Request → Answer → ℕ
days_of (Request.Advance t b) x = opened_in x
days_of r x = 0

-- The book that a line leaves before its days are opened: an advance, accepted or refused, leaves it as it was.
abbrev pub but_days : Rule → Book → Asked → Book
but_days rule b (call (advance day budget)) = b
but_days rule b a = book_after rule b a

-- Where the next line of a journal that is replayed begins, behind one with this request and this answer.
unfoldable pub place_behind : Place → Request → Answer → Place
place_behind p r x = further p (takes x) (refuses x) (ends_stretch replaying p r (takes x))

-- What a line that asks a gives at place p of a journal on the words l: the answer x, and the words m that it leaves before its days are opened.
pub record MadeButDays (p : Place) (l : List ℕ) (a : Asked) (x : Answer) (m : List ℕ) : Type 0 where
  pub answered : x ≡ answer_to (rule_at replaying p) (book_of_words l) (next p.line) a
  pub left : book_of_words m ≡ but_days (rule_at replaying p) (book_of_words l) a
  pub formed : WellFormed m

-- The line of a journal at place p on the words l, with room for so many numbers, made again but for its days: the words m that it leaves.
pub record LineMade (room : ℕ) (l : List ℕ) (p : Place) (line : List ℕ) (m : List ℕ) (made : Made) : Type 0 where
  pub request : made.request ≡ request_of replaying room p line
  pub answer : made.answer ≡ answer_of replaying room (state_of l p) line
  pub place : made.place ≡ (after replaying room (state_of l p) line).place
  pub days : made.days ≡ days_of (request_of replaying room p line) (answer_of replaying room (state_of l p) line)
  pub left : book_of_words m ≡ but_days (rule_at replaying p) (book_of_words l) (asks replaying room p line)
  -- the days opened in turn lead to the book that the line leaves, and are days of the calendar
  pub book : open_days made.days (book_of_words m) ≡ (after replaying room (state_of l p) line).book
  pub few : (book_of_words m).today.0 + made.days ≤ 29219
  -- the next line may be made, or a day opened
  pub formed : WellFormed m

-- 'Advance': "opens the days after today in turn". The book with the day after today opened; on the calendar's last day, 29,219, there is none.
unfoldable pub open_next_day : Book → Book
open_next_day b = cond (ltb b.today.0 29219) (open_day b) b

-- The words m, in which the day after that of the words l is open.
pub record NextOpened (l m : List ℕ) : Type 0 where
  pub book : book_of_words m ≡ open_next_day (book_of_words l)
  pub formed : WellFormed m

-- The words m, in which so many days behind that of the words l were opened, one by one.
abbrev pub OpenedInTurn : ℕ → (l m : List ℕ) → Type 0
OpenedInTurn zero l m = m ≡ l
OpenedInTurn (suc n) l m = (k : List ℕ) × NextOpened l k × OpenedInTurn n k m

-- An advance equals any advances that open the same days: behind a line made but for its days, its days opened one by one leave the words k of
-- the state that the line leaves where it is taken whole.
pub record MadeWhole (room : ℕ) (l : List ℕ) (p : Place) (line : List ℕ) (made : Made) (k : List ℕ) : Type 0 where
  pub left : state_of k made.place ≡ after replaying room (state_of l p) line
  pub formed : WellFormed k
