-- Paper 02, Ask 6: "The accountants of two participants compare their call references and can tell how many others were called." What a book tells a
-- participant of its own file hangs on its own calls and the days opened, and on nothing that the others did.
-- Assumes nothing.
use Rattle.std.specs.Prelude.{ℕ, ◌≡◌, Bool, true, false, cond, List, [], ◌∷◌, eqb}
use Rattle.book.specs.Call.{Act, Call, on, advance, statement, calls_made, batch}
use Rattle.book.specs.Rule.{Rule, MadeCall}
use Rattle.book.specs.Account.{answer, run}
use Rattle.book.specs.Reading.Events.{mine}
use Rattle.book.specs.Reading.Decisions.{events_of}

-- Two lists of calls, the newest first, from a fresh book on day s have the same accepted calls of participant p, on the same days, and the same days
-- opened. A batch is read as its settlements.
abbrev pub AgreeOn : (s p : ℕ) (one other : List MadeCall) → Type 0
AgreeOn s p one other = mine p (events_of s one) ≡ mine p (events_of s other)

-- The books that two lists of calls lead to tell participant p the same, whatever the others did.
pub record TellsAlike (s p : ℕ) (one other : List MadeCall) : Type 0 where
  -- its statement
  pub statement : (rule : Rule) → answer rule (run s one) (statement p) ≡ answer rule (run s other) (statement p)
  -- the answer to each call on its file
  pub calls : (rule : Rule) (a : Act) → answer rule (run s one) (on p a) ≡ answer rule (run s other) (on p a)

-- Whether a call is on participant p's file, or an advance ..
abbrev pub concerns : ℕ → Call → Bool
concerns p (on q a) = eqb q p
concerns p (advance day budget) = true
concerns p (statement q) = false
concerns p calls_made = false
concerns p (batch file) = false

-- .. and those of a list, accepted or refused, under the rules that they are made under.
unfoldable pub concerning : ℕ → List MadeCall → List MadeCall
concerning p [] = []
concerning p (e ∷ before) = cond (concerns p e.call) (e ∷ concerning p before) (concerning p before)

-- Whether a call is a batch, which is accepted or refused with the parts of others ..
abbrev pub is_batch : Call → Bool
is_batch (on q a) = false
is_batch (advance day budget) = false
is_batch (statement q) = false
is_batch calls_made = false
is_batch (batch file) = true

-- .. and a list without one.
abbrev pub NoBatch : List MadeCall → Type 0
NoBatch [] = Unit {0}
NoBatch (e ∷ before) = (is_batch e.call ≡ false) × NoBatch before
