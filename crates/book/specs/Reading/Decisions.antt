-- What each call is decided to answer, "by the call's arguments, by today and by these readings of the calls before it"; and the history
-- that a list of calls makes.
-- Assumes nothing.
use Rattle.std.specs.Prelude.{ℕ, zero, suc, ◌+◌, ◌-◌, min, Bool, cond, not, ◌&&◌, ◌||◌, List, [], ◌∷◌, ◌++◌, leb, ltb, eqb, length, ℤ}
use Rattle.calendar.specs.Civil.{month_of, in_annual_days, in_deletion_months}
use Rattle.manual.specs.Check.{checked}
use Rattle.manual.specs.Figures.{sum_of, wrong_count, out_of_range}
use Rattle.file.specs.Answer.{Answer, refused, Cause, done, recorded, annual, days_opened, stated, counted, deletion, decide, accepted}
use Rattle.file.specs.Position.{amount_of, filled, not_releasable, outside_amounts, against_days}
use Rattle.file.specs.Calls.{largest, amounts_of}
use Rattle.file.specs.Settle.{outside_months, check_due, check_says}
use Rattle.batch.specs.Batch.{count_in, participant_at, form_of}
use Rattle.book.specs.Call.{Act, admit, lodge, release, settle, annual_run, delete, Call, on, advance, statement, calls_made, batch}
use Rattle.book.specs.Call.{part_act, batch_says}
use Rattle.book.specs.Rule.{Rule, old_rule, new_rule, MadeCall}
use Rattle.book.specs.Reading.Events.{Event, Own, did, act, mine, today_of, with_days, admitted_in, leaving_in}
use Rattle.book.specs.Reading.Holdings.{position_in, cover_in, deposited_in}
use Rattle.book.specs.Reading.Months.{next_in, annual_in, years_totals, deletion_in}
use Rattle.book.specs.Reading.Calls.{calls_in, called_in, deletion_called, firm_in, open_in, made_in}
use Rattle.book.specs.Reading.Charges.{charged_in, accrued_in}

-- A cause of refusal.
abbrev pub cause : ℕ → Bool → Cause
cause n holds = record { number = n; holds = holds }

-- The cover left by a release of amount a at place k today, and what it "must be at least": "the largest of the firm amount, all open calls
-- and the next amount".
abbrev pub cover_left : ℕ → ℕ → ℕ → List Own → ℕ
cover_left t k a own = cover_in t (act t (release k a) ∷ own)

abbrev pub must_stay : ℕ → List Own → ℕ
must_stay t own = largest (next_in own).amount (firm_in t own ∷ amounts_of (open_in t own))

-- A settlement's answer: the check's, "called (E, asked, last free day), covered (E)", "or recorded only (E) where no check was due".
unfoldable pub settlement_answer : ℕ → ℕ → List ℤ → List Own → Answer
settlement_answer t m figures own =
    cond (check_due (month_of t) m)
    (check_says (sum_of figures) (t + 10)
    (checked (sum_of figures) (deposited_in t own) (firm_in t own) (amounts_of (open_in t own))))
    (recorded (sum_of figures))

-- The causes of a call today on a participant with this history of its own, in paper 01's order, after cause 1; an admission has one more since
-- paper 02, Ask 3 (`retirement`). Since Ask 4: "24 outside August and September or already in the status, after 2; 25 annual run for such a file, after
-- 14; 13 comes after 24", "A fifth open call gives 13 here too".
unfoldable pub own_causes : ℕ → List Own → Act → List Cause
own_causes t own (admit role) = cause 3 (admitted_in own) ∷ cause 4 (ltb 5 role) ∷ []
own_causes t own (lodge k h) =
    cause 2 (not (admitted_in own))
    ∷ cause 5 (ltb 7 k)
    ∷ cause 6 (filled (position_in t k own))
    ∷ cause 8 (outside_amounts (amount_of h))
    ∷ cause 9 (against_days t h)
    ∷ []
own_causes t own (release k a) =
    cause 2 (not (admitted_in own))
    ∷ cause 5 (ltb 7 k)
    ∷ cause 7 (not (filled (position_in t k own)))
    ∷ cause 8 (outside_amounts a)
    ∷ cause 15 (not_releasable a (position_in t k own))
    ∷ cause 16 (ltb (cover_left t k a own) (must_stay t own))
    ∷ []
own_causes t own (settle m figures) =
    cause 2 (not (admitted_in own))
    ∷ cause 12 (outside_months (month_of t) m)
    ∷ cause 10 (wrong_count figures)
    ∷ cause 11 (out_of_range figures)
    ∷ cause 13 (called_in t m figures own (calls_in own) && leb 4 (length (open_in t own)))
    ∷ []
own_causes t own annual_run =
    cause 2 (not (admitted_in own)) ∷ cause 14 (not (in_annual_days t)) ∷ cause 25 (leaving_in own) ∷ []
own_causes t own delete =
    cause 2 (not (admitted_in own))
    ∷ cause 24 (not (in_deletion_months t) || leaving_in own)
    ∷ cause 13 (deletion_called t own (calls_in own) && leb 4 (length (open_in t own)))
    ∷ []

-- Its answer where none holds. Paper 02, Ask 4: "The answer gives the amount and whether it became a call."
unfoldable pub own_answer : ℕ → List Own → Act → Answer
own_answer t own (admit role) = done
own_answer t own (lodge k h) = done
own_answer t own (release k a) = done
own_answer t own (settle m figures) = settlement_answer t m figures own
own_answer t own annual_run = annual (annual_in t own) (length (years_totals t own))
own_answer t own delete = deletion (deletion_in t own) (deletion_called t own (calls_in own))

-- The statement's figures today, and since paper 02, Ask 6 the count of calls made.
unfoldable pub own_statement : ℕ → List Own → Answer
own_statement t own =
    stated (firm_in t own) (cover_in t own) (firm_in t own - cover_in t own) (charged_in own) (accrued_in own) (made_in own)

-- Paper 02, Ask 6: "The old question is answered with the sum of the counts": those of participants 0 to n − 1, their calls made counted anew.
unfoldable pub calls_below : ℕ → List Event → ℕ
calls_below zero events = 0
calls_below (suc n) events = made_in (mine n events) + calls_below n events

-- Paper 02, Ask 3, "Only admission changes": the cause that a call has besides under the new rule, behind the others: "23 role 1 at admission, after 4".
abbrev pub retirement : Rule → Act → List Cause
retirement old_rule a = []
retirement new_rule (admit role) = cause 23 (eqb role 1) ∷ []
retirement new_rule (lodge k h) = []
retirement new_rule (release k a) = []
retirement new_rule (settle m figures) = []
retirement new_rule annual_run = []
retirement new_rule delete = []

-- What a call that names participant p is decided to answer, made under a rule after these events from a fresh book on day s.
abbrev pub decision_on : Rule → ℕ → List Event → ℕ → Act → Answer
decision_on rule s events p a =
    decide refused
    (cause 1 (ltb 63 p) ∷ (own_causes (today_of s events) (mine p events) a ++ retirement rule a))
    (own_answer (today_of s events) (mine p events) a)

-- Paper 02, Ask 1: what is decided of part k of a batch. Its participant stands in no other part, so that its figures are read from the calls
-- before the batch; a settlement is decided alike under both rules.
unfoldable pub part_decision : ℕ → List Event → List ℕ → ℕ → Answer
part_decision s events file k = decision_on new_rule s events (participant_at file k) (part_act file k)

-- What a call is decided to answer, made under a rule after these events from a fresh book on day s.
unfoldable pub decision : Rule → ℕ → List Event → Call → Answer
decision rule s events (on p a) = decision_on rule s events p a
decision rule s events (advance day budget) =
    decide refused
    (cause 17 (ltb 29219 day || ltb day (today_of s events)) ∷ [])
    (days_opened (min budget (day - today_of s events)))
decision rule s events (statement p) =
    decide refused
    (cause 1 (ltb 63 p) ∷ cause 2 (not (admitted_in (mine p events))) ∷ [])
    (own_statement (today_of s events) (mine p events))
decision rule s events calls_made = counted (calls_below 64 events)
decision rule s events (batch file) = batch_says (form_of file) (part_decision s events file)

-- "A batch counts in the history as its settlements, all or none": the events with those of its first k parts added, made on day t.
unfoldable pub with_parts : ℕ → List ℕ → ℕ → List Event → List Event
with_parts t file zero events = events
with_parts t file (suc k) events = did t (participant_at file k) (part_act file k) ∷ with_parts t file k events

-- The events with an accepted call's added: the call with today, or the days that an advance opens in turn.
unfoldable pub with_call : ℕ → List Event → Call → List Event
with_call s events (on p a) = did (today_of s events) p a ∷ events
with_call s events (advance day budget) =
    with_days (min budget (day - today_of s events)) (today_of s events) events
with_call s events (statement p) = events
with_call s events calls_made = events
with_call s events (batch file) = with_parts (today_of s events) file (count_in file) events

-- The events of a list of calls, the newest first, each made under its rule, from a fresh book on day s: each accepted call's, and nothing of a
-- refused one. The events don't tell the rule: "its figures are read as ever".
unfoldable pub events_of : ℕ → List MadeCall → List Event
events_of s [] = []
events_of s (e ∷ before) =
    cond (accepted (decision e.rule s (events_of s before) e.call)) (with_call s (events_of s before) e.call) (events_of s before)
