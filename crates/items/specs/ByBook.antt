-- The items of a participant by the book's account: collected as the days are opened, from its file as each opening left it; and what they are.
-- Assumes nothing.
use Rattle.std.specs.Prelude.{ℕ, zero, suc, ◌≤◌, ◌≡◌, Bool, cond, not, ◌&&◌, List, [], ◌∷◌, eqb, replicate}
use Rattle.file.specs.declared.File.{File}
use Rattle.file.specs.Answer.{accepted}
use Rattle.file.specs.Fields.{cover_of, shortfall_of}
use Rattle.layout.specs.Book.{Book}
use Rattle.book.specs.Call.{Call, on, advance, statement, calls_made, batch}
use Rattle.book.specs.Rule.{MadeCall}
use Rattle.book.specs.Account.{file_at, open_days, days_to_open, answer, applied, run}
use Rattle.book.specs.Reading.Events.{mine}
use Rattle.book.specs.Reading.Decisions.{events_of}
use Rattle.book.specs.Life.{after_calls}
use Rattle.items.specs.declared.Charged.{Charged}
use Rattle.items.specs.declared.Run.{Run}
use Rattle.items.specs.Items.{charged_days, with_charged, items_in, sum_of_days, sum_of_charges, Descending, Itemised}

-- Day d with the figures that its opening left in a file.
unfoldable pub day_by : File → ℕ → Charged
day_by f d = record { day = record { 0 = d }; firm = f.firm; cover = cover_of f d }

-- Whether the opening of day d, which left the file so, charged it: "for every admitted participant .. then the day is charged".
unfoldable pub charged_by : File → ℕ → Bool
charged_by f d = f.admitted && not (eqb (shortfall_of f d) 0)

-- The items after day d was opened, the file being as the opening left it.
unfoldable pub with_day : File → ℕ → List Run → List Run
with_day f d items = cond (charged_by f d) (with_charged (day_by f d) items) items

-- What is collected of participant p's file at each opened day, one after the other, by a rule that takes the file as the opening left it and the day.
module _ {A : Type 0} (collect : File → ℕ → A → A) (p : ℕ) where
  -- the n days after today, opened on book b in turn
  unfoldable pub over_days : Book → ℕ → A → A
  over_days b zero a = a
  over_days b (suc n) a = collect (file_at (open_days (suc n) b) p) (open_days (suc n) b).today.0 (over_days b n a)

  -- an accepted call: no other than an advance opens a day
  unfoldable pub over_call : Book → Call → A → A
  over_call b (on q x) a = a
  over_call b (advance day budget) a = over_days b (days_to_open b day budget) a
  over_call b (statement q) a = a
  over_call b calls_made a = a
  over_call b (batch file) a = a

  -- a list of calls, the newest first, from a fresh book on day s
  unfoldable pub over_calls : ℕ → List MadeCall → A → A
  over_calls s [] a = a
  over_calls s (e ∷ before) a =
      cond (accepted (answer e.rule (run s before) e.call)) (over_call (run s before) e.call (over_calls s before a)) (over_calls s before a)

-- The items of participant p, collected from the books that a list of calls leads to from a fresh book on day s, "every advance taken day by day".
unfoldable pub items_by_book : (p s : ℕ) → List MadeCall → List Run
items_by_book p s calls = over_calls with_day p s calls []

-- After a list of calls, each under either rule, refused ones included: the items by the book are those of the reading, with all that these promise,
-- and their sums are the fields that the book keeps, "beside the statement's figures".
pub record ItemisedByBook (p s : ℕ) (calls : List MadeCall) : Type 0 where
  pub items : items_by_book p s calls ≡ items_in (mine p (events_of s calls))
  pub itemised : Itemised (mine p (events_of s calls))
  -- no day is charged twice
  pub once : Descending (charged_days (mine p (events_of s calls)))
  pub days : sum_of_days (items_by_book p s calls) ≡ (file_at (run s calls) p).charged
  pub charges : sum_of_charges (items_by_book p s calls) ≡ (file_at (run s calls) p).accrued

-- "an advance equals any advances that open the same days": an accepted advance leaves the book that as many advances with a budget of one day leave,
-- and each of these the book after the days opened so far.
pub record DayByDay (b : Book) (day budget : ℕ) : Type 0 where
  pub same : after_calls b (replicate (days_to_open b day budget) (advance day 1)) ≡ applied b (advance day budget)
  pub each : (n : ℕ) → n ≤ days_to_open b day budget → after_calls b (replicate n (advance day 1)) ≡ open_days n b
