-- Short histories, as the facts speak of them.
-- Assumes nothing.
use Rattle.std.specs.Prelude.{ℕ, List, [], ◌∷◌, map, ℤ, pos}
use Rattle.file.specs.declared.Position.TheVariants.{Cash, Letter}
use Rattle.file.specs.Answer.{Answer}
use Rattle.book.specs.Call.{admit, lodge, release, settle, annual_run, delete, Call, on, advance}
use Rattle.book.specs.Rule.{old_rule, new_rule, MadeCall, history}
use Rattle.book.specs.Account.{file_at, answer, run}
use Rattle.book.specs.Reading.Events.{Event, Own, mine}
use Rattle.book.specs.Reading.Charges.{opening_shortfall, accrued_in}
use Rattle.book.specs.Reading.Decisions.{decision, events_of}

-- Calls in front of others, which are older: a list of calls, the first call first, as `Life` has them, the newest first.
unfoldable pub newest_first : List Call → List Call → List Call
newest_first [] older = older
newest_first (c ∷ calls) older = newest_first calls (c ∷ older)

-- The calls of a first stretch, made under the old admission rule, and those since, in each list the first call first, as one such list.
abbrev pub in_turn : (first since : List Call) → List MadeCall
in_turn first since = history (newest_first first []) (newest_first since [])

-- What the reading decides of call c, made after these calls, the first of them first, from a fresh book on day s.
unfoldable pub decides : ℕ → List Call → Call → Answer
decides s calls c = decision new_rule s (events_of s (in_turn [] calls)) c

-- What the book answers to it.
unfoldable pub answers : ℕ → List Call → Call → Answer
answers s calls c = answer new_rule (run s (in_turn [] calls)) c

-- The same after a first stretch and the calls since ..
unfoldable pub decides_behind : (s : ℕ) (first since : List Call) → Call → Answer
decides_behind s first since c = decision new_rule s (events_of s (in_turn first since)) c

unfoldable pub answers_behind : (s : ℕ) (first since : List Call) → Call → Answer
answers_behind s first since c = answer new_rule (run s (in_turn first since)) c

-- .. and of a call of the first stretch itself, after those before it.
unfoldable pub decides_first : (s : ℕ) (first : List Call) → Call → Answer
decides_first s first c = decision old_rule s (events_of s (in_turn first [])) c

unfoldable pub answers_first : (s : ℕ) (first : List Call) → Call → Answer
answers_first s first c = answer old_rule (run s (in_turn first [])) c

-- The events of these calls, and participant p's part of them.
unfoldable pub happened : ℕ → List Call → List Event
happened s calls = events_of s (in_turn [] calls)

unfoldable pub happened_to : ℕ → ℕ → List Call → List Own
happened_to p s calls = mine p (happened s calls)

unfoldable pub own_behind : (p s : ℕ) (first since : List Call) → List Own
own_behind p s first since = mine p (events_of s (in_turn first since))

-- Participant 0's accrued charge after these calls, by the reading and in the book; and the shortfalls, by the reading, at the openings of
-- some days.
unfoldable pub accrued_by : ℕ → List Call → ℕ
accrued_by s calls = accrued_in (mine 0 (events_of s (in_turn [] calls)))

unfoldable pub accrued_of : ℕ → List Call → ℕ
accrued_of s calls = (file_at (run s (in_turn [] calls)) 0).accrued

unfoldable pub shortfalls : ℕ → List Call → List ℕ → List ℕ
shortfalls s calls days = map (λ (d : ℕ). opening_shortfall d (mine 0 (events_of s (in_turn [] calls)))) days

unfoldable pub shortfalls_behind : (s : ℕ) (first since : List Call) → List ℕ → List ℕ
shortfalls_behind s first since days = map (λ (d : ℕ). opening_shortfall d (mine 0 (events_of s (in_turn first since)))) days

-- ---- calls of participant 0

abbrev pub admits : ℕ → Call
admits role = on 0 (admit role)

-- Cash, or a letter with its first and its last day, at a position.
abbrev pub cash : ℕ → ℕ → Call
cash k a = on 0 (lodge k (Cash a))

abbrev pub letter : ℕ → ℕ → ℕ → ℕ → Call
letter k a first last = on 0 (lodge k (Letter a (record { 0 = first }) (record { 0 = last })))

abbrev pub releases : ℕ → ℕ → Call
releases k a = on 0 (release k a)

-- A month's five figures with this total.
abbrev pub five : ℕ → List ℤ
five e = pos e ∷ pos 0 ∷ pos 0 ∷ pos 0 ∷ pos 0 ∷ []

abbrev pub settles : ℕ → ℕ → Call
settles m e = on 0 (settle m (five e))

abbrev pub runs_annual : Call
runs_annual = on 0 annual_run

abbrev pub deletes : Call
deletes = on 0 delete

-- Days opened up to day d, however many.
abbrev pub to_day : ℕ → Call
to_day d = advance d 100000
