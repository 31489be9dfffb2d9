-- A whole session: lines answered one after the other, from the fresh book of day 0. Lists have the newest line first, as lists of calls have
-- in the book's theorem.
-- Assumes nothing.
use Rattle.std.specs.Prelude.{ℕ, ◌≤◌, ◌≡◌, cond, List, [], ◌∷◌, ltb}
use Rattle.layout.specs.Book.{Book}
use Rattle.book.specs.Call.{Call}
use Rattle.book.specs.Rule.{Rule, old_rule, new_rule, MadeCall, history}
use Rattle.book.specs.Account.{fresh_book, run}
use Rattle.book.specs.Reading.Events.{Event}
use Rattle.book.specs.Reading.Decisions.{decision, events_of}
use Rattle.book.specs.Life.{Life}
use Rattle.answering.specs.Shown.{shown}
use Rattle.answering.specs.Asked.{Asked, call, fresh, guarantee, nothing, role_retired, file_asked, releasable_asked, today_asked, fault, answer_to, book_after}

-- Paper 02, Ask 3: the rule that the next line's call is made under. Lines begin as a journal does, with a first stretch, which lasts until the line that
-- ends it; what is typed stands behind that line.
unfoldable pub rule_behind : List Asked → Rule
rule_behind [] = old_rule
rule_behind (call c ∷ before) = rule_behind before
rule_behind (fresh d ∷ before) = rule_behind before
rule_behind (guarantee x ∷ before) = rule_behind before
rule_behind (nothing ∷ before) = rule_behind before
rule_behind (role_retired ∷ before) = new_rule
rule_behind (file_asked p ∷ before) = rule_behind before
rule_behind (releasable_asked p k ∷ before) = rule_behind before
rule_behind (today_asked ∷ before) = rule_behind before
rule_behind (fault e ∷ before) = rule_behind before

-- The book that lines lead to: "Before any `fresh` line the book is the fresh book of day 0".
unfoldable pub book_of : List Asked → Book
book_of [] = fresh_book 0
book_of (a ∷ before) = book_after (rule_behind before) (book_of before) a

-- The day of the latest fresh book, and the calls of the papers since: those of the first stretch, and those behind it.
pub record Since : Type 0 where
  pub start : ℕ
  pub first : List Call
  pub calls : List Call

-- .. as a history.
abbrev pub history_of : Since → List MadeCall
history_of s = history s.first s.calls

-- .. with one more call, made under a rule.
abbrev pub since_with : Rule → Call → Since → Since
since_with old_rule c s = record { start = s.start; first = c ∷ s.first; calls = s.calls }
since_with new_rule c s = record { start = s.start; first = s.first; calls = c ∷ s.calls }

unfoldable pub since : List Asked → Since
since [] = record { start = 0; first = []; calls = [] }
since (call c ∷ before) = since_with (rule_behind before) c (since before)
since (fresh d ∷ before) = cond (ltb 29219 d) (since before) (record { start = d; first = []; calls = [] })
since (guarantee x ∷ before) = since before
since (nothing ∷ before) = since before
since (role_retired ∷ before) = since before
since (file_asked p ∷ before) = since before
since (releasable_asked p k ∷ before) = since before
since (today_asked ∷ before) = since before
since (fault e ∷ before) = since before

-- The events of the history that lines make.
unfoldable pub events_since : List Asked → List Event
events_since lines = events_of (since lines).start (history_of (since lines))

-- Demand 3, of a session: the book is that of the calls since the latest fresh book, the claim about a whole list of calls holds of them, and
-- the next call, on whatever line, is answered as the reading of those calls decides.
pub record Session (lines : List Asked) : Type 0 where
  pub within : (since lines).start ≤ 29219
  pub book : book_of lines ≡ run (since lines).start (history_of (since lines))
  pub life : Life (since lines).start (history_of (since lines))
  pub answered : (n : ℕ) (c : Call)
      → answer_to (rule_behind lines) (book_of lines) n (call c) ≡ shown (decision (rule_behind lines) (since lines).start (events_since lines) c)
