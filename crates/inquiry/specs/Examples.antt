-- The most that may be released, worked out by hand on day 10, on both sides of every bound.
-- Assumes nothing.
use Rattle.std.specs.Prelude.{ℕ, ◌≡◌, true, false, List, [], ◌∷◌, map, length, replicate, set, Ok, Err}
use Rattle.refusal.specs.declared.Refusal.TheVariants.{NoSuchParticipant, NotAdmitted, NoSuchPosition}
use Rattle.file.specs.declared.File.{File}
use Rattle.file.specs.declared.Position.{Position}
use Rattle.file.specs.declared.Position.TheVariants.{Empty, Cash, Letter}
use Rattle.file.specs.declared.OpenCall.{OpenCall}
use Rattle.file.specs.Answer.{refused, done}
use Rattle.file.specs.Admit.{no_file}
use Rattle.file.specs.Calls.{call_of, in_places}
use Rattle.file.specs.Fields.{set_to}
use Rattle.file.specs.Position.{slot_of}
use Rattle.file.specs.Release.{release_answer}
use Rattle.file.specs.Totals.{no_total}
use Rattle.layout.specs.Book.{Book}
use Rattle.inquiry.specs.Releasable.{releasable_at, releasable_in}

-- An admitted participant's file with a firm amount, open calls, a next amount, and positions.
abbrev pub file_with : (firm : ℕ) → List OpenCall → (next : ℕ) → List Position → File
file_with firm calls next held =
    record {
      admitted = true;
      leaving = false;
      role = 3;
      firm = firm;
      slots = map slot_of held;
      calls = in_places calls;
      count = length calls;
      next = set_to next;
      totals = replicate 16 no_total;
      charged = 0;
      accrued = 0;
      made = length calls;
    }

-- A file that must keep a firm amount alone, with something at its first two positions.
abbrev pub keeps : ℕ → Position → Position → File
keeps firm first second = file_with firm [] 0 (first ∷ second ∷ Empty ∷ Empty ∷ Empty ∷ Empty ∷ Empty ∷ Empty ∷ [])

-- Cash of 250 at the first position, with a firm amount, open calls and a next amount.
abbrev pub cash_250 : ℕ → List OpenCall → ℕ → File
cash_250 firm calls next = file_with firm calls next (Cash 250 ∷ Empty ∷ Empty ∷ Empty ∷ Empty ∷ Empty ∷ Empty ∷ Empty ∷ [])

-- A letter of 200 with its first and its last day.
abbrev pub letter_200 : ℕ → ℕ → Position
letter_200 first last = Letter 200 (record { 0 = first }) (record { 0 = last })

-- The book in which participant 3 alone is admitted, with cash of 250 and the firm amount 100.
abbrev pub book_of_one : Book
book_of_one = record { files = set (replicate 64 no_file) 3 (cash_250 100 [] 0); today = record { 0 = 10 } }

pub record Examples : Type 0 where
  -- cash above the floor: the cover less the floor
  pub cash-above : releasable_at (cash_250 100 [] 0) 10 0 ≡ 150
  pub cash-one-above : releasable_at (cash_250 249 [] 0) 10 0 ≡ 1
  -- .. exactly at the floor, and below it: nothing
  pub cash-at : releasable_at (cash_250 250 [] 0) 10 0 ≡ 0
  pub cash-below : releasable_at (cash_250 251 [] 0) 10 0 ≡ 0
  -- .. whole, where nothing must stay, and where other cash is enough
  pub cash-whole : releasable_at (cash_250 0 [] 0) 10 0 ≡ 250
  pub cash-first : releasable_at (keeps 150 (Cash 100) (Cash 200)) 10 0 ≡ 100
  pub cash-second : releasable_at (keeps 150 (Cash 100) (Cash 200)) 10 1 ≡ 150
  pub cash-largest : releasable_at (keeps 1 (Cash 1000000000000) Empty) 10 0 ≡ 999999999999
  -- the release of that amount, and of one cent more
  pub at-it : release_answer (cash_250 100 [] 0) 10 0 150 ≡ done
  pub above-it : release_answer (cash_250 100 [] 0) 10 0 151 ≡ refused 16
  -- a letter that may go, and one that may not, and isn't released in part
  pub letter-may : releasable_at (keeps 100 (Cash 100) (letter_200 5 15)) 10 1 ≡ 200
  pub letter-may-not : releasable_at (keeps 101 (Cash 100) (letter_200 5 15)) 10 1 ≡ 0
  pub letter-first-day : releasable_at (keeps 101 (Cash 100) (letter_200 10 15)) 10 1 ≡ 0
  pub letter-last-day : releasable_at (keeps 101 (Cash 100) (letter_200 5 10)) 10 1 ≡ 0
  -- .. beside it cash may go as far as the letter counts
  pub cash-by-letter : releasable_at (keeps 250 (Cash 100) (letter_200 5 15)) 10 0 ≡ 50
  -- a letter that hasn't begun counts for nothing: it may go where the cover without it is at least the floor, and no cash may go for it
  pub letter-later : releasable_at (keeps 100 (Cash 100) (letter_200 11 15)) 10 1 ≡ 200
  pub letter-later-below : releasable_at (keeps 101 (Cash 100) (letter_200 11 15)) 10 1 ≡ 0
  pub cash-by-later : releasable_at (keeps 100 (Cash 100) (letter_200 11 15)) 10 0 ≡ 0
  -- an open call keeps the cover, so does the next amount; of the three the largest does, and not their sum
  pub by-call : releasable_at (cash_250 0 (call_of 180 19 ∷ []) 0) 10 0 ≡ 70
  pub by-second-call : releasable_at (cash_250 0 (call_of 90 15 ∷ call_of 180 19 ∷ []) 0) 10 0 ≡ 70
  pub by-next : releasable_at (cash_250 0 [] 180) 10 0 ≡ 70
  pub by-largest : releasable_at (cash_250 120 (call_of 180 19 ∷ []) 150) 10 0 ≡ 70
  -- nothing is held
  pub empty : releasable_at (cash_250 0 [] 0) 10 7 ≡ 0
  -- the question on a book, and what refuses it, in this order
  pub asked : releasable_in book_of_one 3 0 ≡ Ok 150
  pub last-position : releasable_in book_of_one 3 7 ≡ Ok 0
  pub no-position : releasable_in book_of_one 3 8 ≡ Err NoSuchPosition
  pub not-admitted : releasable_in book_of_one 63 8 ≡ Err NotAdmitted
  pub no-participant : releasable_in book_of_one 64 8 ≡ Err NoSuchParticipant
