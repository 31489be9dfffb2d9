-- Demand 3: the single claim about a whole list of calls from a fresh book on day s, refused ones included, each made under the old or the new
-- admission rule; and that an advance equals any advances that open the same days.
-- Assumes nothing.
use Rattle.std.specs.Prelude.{ℕ, suc, ◌+◌, ◌-◌, ◌≤◌, ◌<◌, ◌≡◌, true, false, cond, List, [], ◌∷◌, ltb}
use Rattle.manual.specs.Charge.{day_charge}
use Rattle.file.specs.declared.File.{File}
use Rattle.file.specs.Answer.{Answer, counted}
use Rattle.file.specs.Fields.{cover_of, shortfall_of}
use Rattle.layout.specs.Book.{Book}
use Rattle.book.specs.Call.{Call, on, advance, statement, calls_made, batch}
use Rattle.book.specs.Rule.{Rule, new_rule, MadeCall, under}
use Rattle.book.specs.Account.{file_at, sum_of_counts, answer, step, run}
use Rattle.book.specs.OneCount.{count_before}
use Rattle.book.specs.Reading.Events.{Own, day_opened, act, mine, today_of, admitted_in, leaving_in, role_in}
use Rattle.book.specs.Reading.Holdings.{cover_in}
use Rattle.book.specs.Reading.Calls.{firm_in, made_in}
use Rattle.book.specs.Reading.Charges.{charged_in, accrued_in}
use Rattle.book.specs.Reading.Decisions.{calls_below, decision, events_of}
use Rattle.book.specs.Kept.{book_in}
use Rattle.book.specs.Private.{AgreeOn, TellsAlike}

-- What the book answered to each call of a list, the newest first.
unfoldable pub answers_of : ℕ → List MadeCall → List Answer
answers_of s [] = []
answers_of s (e ∷ before) = answer e.rule (run s before) e.call ∷ answers_of s before

-- What the reading decides of each, "from the arguments, the fresh day and the calls before".
unfoldable pub decisions_of : ℕ → List MadeCall → List Answer
decisions_of s [] = []
decisions_of s (e ∷ before) = decision e.rule s (events_of s before) e.call ∷ decisions_of s before

-- A file's figures on day t are the readings of its own calls and the days opened.
pub record ReadsAs (t : ℕ) (f : File) (own : List Own) : Type 0 where
  pub admitted : f.admitted ≡ admitted_in own
  pub leaving : f.leaving ≡ leaving_in own
  pub role : f.role ≡ role_in own
  pub firm : f.firm ≡ firm_in t own
  pub cover : cover_of f t ≡ cover_in t own
  pub charged : f.charged ≡ charged_in own
  pub accrued : f.accrued ≡ accrued_in own
  pub made : f.made ≡ made_in own

-- Day d, opened after `own`, added one to the days charged and its day charge to the accrued charge exactly when the cover at that opening
-- was below the firm amount on that day, and changed neither otherwise.
pub record ChargedRight (d : ℕ) (own : List Own) : Type 0 where
  pub charged : charged_in (day_opened d ∷ own)
      ≡ cond (ltb (cover_in d own) (firm_in d (day_opened d ∷ own))) (suc (charged_in own)) (charged_in own)
  pub accrued : accrued_in (day_opened d ∷ own)
      ≡ cond (ltb (cover_in d own) (firm_in d (day_opened d ∷ own)))
      (accrued_in own + day_charge (firm_in d (day_opened d ∷ own) - cover_in d own))
      (accrued_in own)

-- Each day opened since the admission was charged right.
abbrev pub EachDay : List Own → Type 0
EachDay [] = Unit {0}
EachDay (day_opened d ∷ own) = (admitted_in own ≡ true → ChargedRight d own) × EachDay own
EachDay (act d a ∷ own) = EachDay own

-- Day d charged a participant's file, f before its opening and g after it: one to the days charged, and the day charge of g's firm amount less
-- its cover on d to the accrued charge, exactly when that cover is below that firm amount, and neither otherwise.
pub record ChargedFile (d : ℕ) (f g : File) : Type 0 where
  pub charged : g.charged ≡ cond (ltb (cover_of g d) g.firm) (suc f.charged) f.charged
  pub accrued : g.accrued
      ≡ cond (ltb (cover_of g d) g.firm) (f.accrued + day_charge (g.firm - cover_of g d)) f.accrued

-- Book `after` has one more day opened than book `before`: each admitted participant's file was charged it, and every other is as it was.
pub record ChargedBook (before after : Book) : Type 0 where
  pub next : after.today.0 ≡ suc before.today.0
  pub admitted : (p : ℕ) → (file_at before p).admitted ≡ true
      → ChargedFile after.today.0 (file_at before p) (file_at after p)
  pub others : (p : ℕ) → (file_at before p).admitted ≡ false → file_at after p ≡ file_at before p

-- Every opening after a list of calls, under either rule: what an advance that opens n days leaves, and one that opens one more, as far as there
-- are days to T.
abbrev pub Openings : ℕ → List MadeCall → Type 0
Openings s calls =
    (rule : Rule) (day n : ℕ) → day ≤ 29219 → (run s calls).today.0 + suc n ≤ day
    → ChargedBook (run s (under rule (advance day n) ∷ calls)) (run s (under rule (advance day (suc n)) ∷ calls))

-- .. after each of the calls of a list, so those inside its own advances too.
abbrev pub EachOpening : ℕ → List MadeCall → Type 0
EachOpening s [] = Openings s []
EachOpening s (e ∷ before) = Openings s (e ∷ before) × EachOpening s before

-- A call after which today is still `before`'s, so one that opened no day, left no admitted participant's shortfall higher, and a newly
-- admitted one began with none.
pub record NoneHigher (before after : Book) : Type 0 where
  pub kept : (p : ℕ) → p < 64 → (file_at before p).admitted ≡ true
      → shortfall_of (file_at after p) after.today.0 ≤ shortfall_of (file_at before p) before.today.0
  pub begun : (p : ℕ) → p < 64 → (file_at before p).admitted ≡ false → (file_at after p).admitted ≡ true
      → shortfall_of (file_at after p) after.today.0 ≡ 0

-- .. each call of a list.
abbrev pub EachCall : ℕ → List MadeCall → Type 0
EachCall s [] = Unit {0}
EachCall s (e ∷ before) =
    ((run s (e ∷ before)).today.0 ≡ (run s before).today.0 → NoneHigher (run s before) (run s (e ∷ before))) × EachCall s before

-- The claim about the list of calls as a whole, the newest first. A history with its first stretch (`history`) is such a list.
pub record Life (s : ℕ) (calls : List MadeCall) : Type 0 where
  -- "each answer is what paper 01 decides from the arguments, the fresh day and the calls before"
  pub answers : answers_of s calls ≡ decisions_of s calls
  -- the book is that of the readings, field by field
  pub kept : run s calls ≡ book_in s (events_of s calls)
  -- "each participant's firm amount, cover, days charged and accrued charge equal the independent reading of the history"
  pub figures : (p : ℕ) → p < 64
      → ReadsAs (today_of s (events_of s calls)) (file_at (run s calls) p) (mine p (events_of s calls))
  -- "each opened day charged exactly the late participants, once"
  pub days : (p : ℕ) → EachDay (mine p (events_of s calls))
  -- the same of the book's own fields, at every opening, those inside an advance too
  pub openings : EachOpening s calls
  -- "a call that opened no day raised no shortfall"
  pub none_higher : EachCall s calls
  -- paper 02, Ask 6: the sum of the counts is the number of calls made to all, and "the old question" answers what it did when a book had one count
  pub made : sum_of_counts (run s calls) ≡ calls_below 64 (events_of s calls)
  pub as_before : (rule : Rule) → answer rule (run s calls) calls_made ≡ counted (count_before s calls)
  -- .. and two lists that agree on a participant's own calls and the days opened tell it the same, whatever the others did
  pub private : (p : ℕ) (other : List MadeCall) → AgreeOn s p calls other → TellsAlike s p calls other
  -- today
  pub today : (run s calls).today.0 ≡ today_of s (events_of s calls)

-- The book after a list of calls, the first of them first.
unfoldable pub after_calls : Book → List Call → Book
after_calls b [] = b
after_calls b (c ∷ calls) = after_calls (step new_rule b c) calls

-- A list of advances only.
abbrev pub Advances : List Call → Type 0
Advances [] = Unit {0}
Advances (on p a ∷ calls) = ⊥
Advances (advance day budget ∷ calls) = Advances calls
Advances (statement p ∷ calls) = ⊥
Advances (calls_made ∷ calls) = ⊥
Advances (batch file ∷ calls) = ⊥

-- An advance equals any advances that open the same days: from one book, two lists of advances that come to the same day leave one book.
pub record SameDays (b : Book) (one other : List Call) : Type 0 where
  pub same : (after_calls b one).today.0 ≡ (after_calls b other).today.0 → after_calls b one ≡ after_calls b other
