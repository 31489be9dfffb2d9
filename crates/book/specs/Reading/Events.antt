-- A history: the accepted calls and the days opened, the newest first.
-- Assumes nothing.
use Rattle.std.specs.Prelude.{ℕ, zero, suc, ◌+◌, Bool, true, false, cond, List, [], ◌∷◌, eqb}
use Rattle.book.specs.Call.{Act, admit, lodge, release, settle, annual_run, delete}

-- What happened: a day was opened, or a participant's call was accepted on a day.
pub data Event : Type 0 where
  opened : (day : ℕ) → Event
  did : (day participant : ℕ) → Act → Event

-- What one participant's figures are read from: the days opened, and its own accepted calls, "each with its arguments and the day it was
-- made on".
pub data Own : Type 0 where
  day_opened : (day : ℕ) → Own
  act : (day : ℕ) → Act → Own

-- Participant p's part of the events.
unfoldable pub mine : ℕ → List Event → List Own
mine p [] = []
mine p (opened d ∷ events) = day_opened d ∷ mine p events
mine p (did d q a ∷ events) = cond (eqb q p) (act d a ∷ mine p events) (mine p events)

-- "Today is the last day opened, or the fresh book's day if none was."
unfoldable pub today_of : ℕ → List Event → ℕ
today_of s [] = s
today_of s (opened d ∷ events) = d
today_of s (did d p a ∷ events) = today_of s events

-- The events with the n days after day t opened in turn.
unfoldable pub with_days : ℕ → ℕ → List Event → List Event
with_days zero t events = events
with_days (suc n) t events = opened (t + suc n) ∷ with_days n t events

-- "A participant is admitted, with its role, from its accepted admission on."
unfoldable pub admitted_in : List Own → Bool
admitted_in [] = false
admitted_in (day_opened d ∷ own) = admitted_in own
admitted_in (act d (admit role) ∷ own) = true
admitted_in (act d (lodge k h) ∷ own) = admitted_in own
admitted_in (act d (release k a) ∷ own) = admitted_in own
admitted_in (act d (settle m figures) ∷ own) = admitted_in own
admitted_in (act d annual_run ∷ own) = admitted_in own
admitted_in (act d delete ∷ own) = admitted_in own

unfoldable pub role_in : List Own → ℕ
role_in [] = 0
role_in (day_opened d ∷ own) = role_in own
role_in (act d (admit role) ∷ own) = role
role_in (act d (lodge k h) ∷ own) = role_in own
role_in (act d (release k a) ∷ own) = role_in own
role_in (act d (settle m figures) ∷ own) = role_in own
role_in (act d annual_run ∷ own) = role_in own
role_in (act d delete ∷ own) = role_in own

-- Paper 02, Ask 4: "A new call puts an admitted participant into that status": it is under deletion from its accepted deletion on.
unfoldable pub leaving_in : List Own → Bool
leaving_in [] = false
leaving_in (day_opened d ∷ own) = leaving_in own
leaving_in (act d (admit role) ∷ own) = leaving_in own
leaving_in (act d (lodge k h) ∷ own) = leaving_in own
leaving_in (act d (release k a) ∷ own) = leaving_in own
leaving_in (act d (settle m figures) ∷ own) = leaving_in own
leaving_in (act d annual_run ∷ own) = leaving_in own
leaving_in (act d delete ∷ own) = true
