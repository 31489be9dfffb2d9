-- What a line of the journal asks, what it is answered, and the book that it leaves.
-- Assumes nothing.
use Rattle.std.specs.Prelude.{ℕ, ◌%◌, min, ◌≡◌, cond, List, map, take, drop, Result, ℤ, pos, negsuc}
use Rattle.file.specs.declared.Position.TheVariants.{Cash, Letter}
use Rattle.file.specs.Answer.{accepted}
use Rattle.refusal.specs.declared.Refusal.{Refusal}
use Rattle.special.specs.Guarantee.{special_guarantee}
use Rattle.layout.specs.Book.{Book}
use Rattle.book.specs.Call.{Call, on, admit, lodge, release, settle, annual_run, delete, advance, statement, calls_made, batch}
use Rattle.book.specs.Rule.{Rule}
use Rattle.book.specs.Account.{fresh_answer, fresh_book, answer, step}
use Rattle.book.specs.Reached.{ReachedUnder}
use Rattle.inquiry.specs.Releasable.{releasable_in}
use Rattle.journal.specs.declared.Reason.{Reason}
use Rattle.journal.specs.declared.Request.{Request}
use Rattle.journal.specs.declared.Lengths.{Lengths}
use Rattle.printing.specs.declared.Answer.{Answer}
use Rattle.answering.specs.Shown.{shown, file_shown, releasable_shown, guarantee_shown}

-- What a line asks.
pub data Asked : Type 0 where
  -- a call of papers 01 and 02
  call : Call → Asked
  -- a fresh book on a day
  fresh : (day : ℕ) → Asked
  -- the special guarantee of seven lists
  guarantee : Result ℕ Refusal → Asked
  -- nothing of the book: an empty line, or the table for people
  nothing : Asked
  -- paper 02, Ask 3: the end of the first stretch of a journal
  role_retired : Asked
  -- three questions: a participant's file, what may be released at a position of a participant's, and the book's today
  file_asked : (participant : ℕ) → Asked
  releasable_asked : (participant position : ℕ) → Asked
  today_asked : Asked
  -- no call
  fault : Reason → Asked

-- A number as a mark: a natural number is one; a negative one, which no line has there, counts as 2, which is out of a mark's range too.
abbrev pub mark_of : ℤ → ℕ
mark_of (pos n) = n
mark_of (negsuc n) = 2

-- "each LIST is its length and then its numbers: medium rates, low rates, marks, zero medium, zero low, excess medium, excess low": the
-- guarantee of the first three lists, and of the four by semester whose numbers stand in a row.
unfoldable pub semesters_of : Lengths → List ℤ → List ℤ → List ℕ → List ℤ → Result ℕ Refusal
semesters_of n medium low marks zs =
    let from_low = drop n.zero_medium zs in
    let from_excesses = drop n.zero_low from_low in
    let from_excess_low = drop n.excess_medium from_excesses in
    special_guarantee medium low marks (take n.zero_medium zs) (take n.zero_low from_low) (take n.excess_medium from_excesses)
    (take n.excess_low from_excess_low)

-- The guarantee of seven lists whose numbers stand in a row.
unfoldable pub guarantee_of : Lengths → List ℤ → Result ℕ Refusal
guarantee_of n zs =
    let from_low = drop n.medium zs in
    let from_marks = drop n.low from_low in
    semesters_of n (take n.medium zs) (take n.low from_low) (map mark_of (take n.marks from_marks)) (drop n.marks from_marks)

-- A number as a byte: a natural number's last eight bits; a negative one counts as 0. A line has only numbers from 0 to 255 there.
abbrev pub byte_of : ℤ → ℕ
byte_of (pos n) = n % 256
byte_of (negsuc n) = 0

-- Paper 02, Ask 1: the file of a batch, whose n bytes stand as numbers in a row. There is room for 32,768 of them, as for a line's numbers.
unfoldable pub batch_bytes : ℕ → List ℤ → List ℕ
batch_bytes n zs = map byte_of (take (min n 32768) zs)

-- What a request asks, with the numbers of its lists in a row: `settle` has as many figures as it says, and `batch` as many bytes.
abbrev pub asked : Request → List ℤ → Asked
asked Request.Nothing zs = nothing
asked (Request.Fresh d) zs = fresh d.0
asked (Request.Admit p role) zs = call (on p (admit role))
asked (Request.LodgeCash p q a) zs = call (on p (lodge q (Cash a)))
asked (Request.LodgeLetter p q a f l) zs = call (on p (lodge q (Letter a f l)))
asked (Request.Release p q a) zs = call (on p (release q a))
asked (Request.Settle p m n) zs = call (on p (settle m.0 (take n zs)))
asked (Request.Annual p) zs = call (on p annual_run)
asked (Request.Advance t b) zs = call (advance t.0 b)
asked (Request.Statement p) zs = call (statement p)
asked Request.Calls zs = call calls_made
asked (Request.Special n) zs = guarantee (guarantee_of n zs)
asked (Request.Batch n) zs = call (batch (batch_bytes n zs))
asked Request.RoleRetired zs = role_retired
asked (Request.Delete p) zs = call (on p delete)
asked Request.Report zs = nothing
asked (Request.File p) zs = file_asked p
asked (Request.Releasable p k) zs = releasable_asked p k
asked Request.Today zs = today_asked
asked (Request.Error e) zs = fault e

-- What is answered to line number n on book b, its call being made under a rule.
abbrev pub answer_to : Rule → Book → ℕ → Asked → Answer
answer_to rule b n (call c) = shown (answer rule b c)
answer_to rule b n (fresh d) = shown (fresh_answer d)
answer_to rule b n (guarantee x) = guarantee_shown x
answer_to rule b n nothing = Answer.Nothing
answer_to rule b n role_retired = Answer.Nothing
answer_to rule b n (file_asked p) = file_shown (shown (answer rule b (statement p)))
answer_to rule b n (releasable_asked p k) = releasable_shown (releasable_in b p k)
answer_to rule b n today_asked = Answer.Today b.today
answer_to rule b n (fault e) = Answer.Error n e

-- The book that a line leaves: "`fresh` begins a new one", unless it is refused; "a line that is no call: the book is as before", and so it is
-- behind a question.
abbrev pub book_after : Rule → Book → Asked → Book
book_after rule b (call c) = step rule b c
book_after rule b (fresh d) = cond (accepted (fresh_answer d)) (fresh_book d) b
book_after rule b (guarantee x) = b
book_after rule b nothing = b
book_after rule b role_retired = b
book_after rule b (file_asked p) = b
book_after rule b (releasable_asked p k) = b
book_after rule b today_asked = b
book_after rule b (fault e) = b

-- What line number n gives on book b under a rule: the answer x and the book b' that it leaves.
pub record Answered (rule : Rule) (b : Book) (n : ℕ) (a : Asked) (x : Answer) (b' : Book) : Type 0 where
  pub answered : x ≡ answer_to rule b n a
  pub left : b' ≡ book_after rule b a
  -- a reached book stays one
  pub reached : ReachedUnder rule b → ReachedUnder rule b'
