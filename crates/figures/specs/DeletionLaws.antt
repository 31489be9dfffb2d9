-- What holds of participants under deletion in every history (paper 02, Ask 4), and of everybody's open calls since.
-- Assumes nothing.
use Rattle.std.specs.Prelude.{ℕ, ◌+◌, ◌≤◌, ◌<◌, ◌≡◌, Bool, true, false, ◌&&◌, List, [], ◌∷◌, ◌++◌, map, leb, eqb, drop}
use Rattle.laws.specs.Lists.{All}
use Rattle.calendar.specs.Civil.{last_day, place_of, month_of, day_of_month, in_annual_days, in_deletion_months}
use Rattle.file.specs.declared.OpenCall.{OpenCall}
use Rattle.file.specs.declared.Position.{Position}
use Rattle.file.specs.Answer.{refused}
use Rattle.book.specs.Call.{lodge, release, annual_run, delete, on}
use Rattle.book.specs.Rule.{Rule, MadeCall}
use Rattle.book.specs.Reading.Events.{Event, Own, act, mine, today_of, admitted_in, leaving_in}
use Rattle.book.specs.Reading.Months.{next_in}
use Rattle.book.specs.Reading.Calls.{base_in, firm_in, open_in}
use Rattle.book.specs.Reading.Decisions.{decision, own_causes, own_answer, events_of}

-- Whether a day of the calendar is one of 1 to 10 October.
unfoldable pub in_first_ten_of_october : ℕ → Bool
in_first_ten_of_october d = leb d last_day && (eqb (place_of (month_of d)) 9 && leb (day_of_month d) 10)

-- Calls, the oldest first, of which each later one has a larger amount and no earlier last free day.
abbrev pub Rising : List OpenCall → Type 0
Rising [] = Unit {0}
Rising (c ∷ calls) = All (λ (x : OpenCall). (c.amount < x.amount) × (c.last.0 ≤ x.last.0)) calls × Rising calls

-- Calls that exceed an amount, each of them.
abbrev pub AllAbove : ℕ → List OpenCall → Type 0
AllAbove a calls = All (λ (c : OpenCall). a < c.amount) calls

-- Participant p's part of the history of a list of calls from a fresh book on day s, and its last day.
abbrev pub part_of : ℕ → ℕ → List MadeCall → List Own
part_of p s calls = mine p (events_of s calls)

abbrev pub day_of : ℕ → List MadeCall → ℕ
day_of s calls = today_of s (events_of s calls)

pub record DeletionLaws : Type 0 where
  -- "A new call puts an admitted participant into that status": for good, whatever is called later and under which rule
  pub stays : (s : ℕ) (later before : List MadeCall) (p : ℕ) → s ≤ 29219 → leaving_in (part_of p s before) ≡ true
      → leaving_in (part_of p s (later ++ before)) ≡ true
  -- "24 outside August and September or already in the status, after 2"
  pub outside : (rule : Rule) (s : ℕ) (events : List Event) (p : ℕ) → p ≤ 63 → admitted_in (mine p events) ≡ true
      → in_deletion_months (today_of s events) ≡ false → decision rule s events (on p delete) ≡ refused 24
  pub again : (rule : Rule) (s : ℕ) (events : List Event) (p : ℕ) → p ≤ 63 → admitted_in (mine p events) ≡ true
      → leaving_in (mine p events) ≡ true → decision rule s events (on p delete) ≡ refused 24
  -- "25 annual run for such a file, after 14"
  pub no-annual-run : (rule : Rule) (s : ℕ) (events : List Event) (p : ℕ) → p ≤ 63 → admitted_in (mine p events) ≡ true
      → in_annual_days (today_of s events) ≡ true → leaving_in (mine p events) ≡ true → decision rule s events (on p annual_run) ≡ refused 25
  -- ".. a next amount already set stays": a deletion leaves it, and where one is set at the end of a later history, it was set before the status
  pub next-left : (t : ℕ) (own : List Own) → next_in (act t delete ∷ own) ≡ next_in own
  pub next-stays : (s : ℕ) (later before : List MadeCall) (p : ℕ) → s ≤ 29219 → leaving_in (part_of p s before) ≡ true
      → (next_in (part_of p s (later ++ before))).set ≡ true → next_in (part_of p s (later ++ before)) ≡ next_in (part_of p s before)
  -- .. it stays as long as the month lasts, so to the end of the September in which it was set ..
  pub next-kept : (s : ℕ) (later before : List MadeCall) (p : ℕ) → s ≤ 29219 → leaving_in (part_of p s before) ≡ true
      → month_of (day_of s (later ++ before)) ≡ month_of (day_of s before)
      → next_in (part_of p s (later ++ before)) ≡ next_in (part_of p s before)
  -- .. and where none is, as after a deletion in August, none takes effect on any later 1 October: R and the base stay, and the firm amount never falls
  pub base-stays : (s : ℕ) (later before : List MadeCall) (p : ℕ) → s ≤ 29219 → leaving_in (part_of p s before) ≡ true
      → (next_in (part_of p s before)).set ≡ false
      → base_in (day_of s (later ++ before)) (part_of p s (later ++ before)) ≡ base_in (day_of s before) (part_of p s before)
  pub firm-stays : (s : ℕ) (later before : List MadeCall) (p : ℕ) → s ≤ 29219 → leaving_in (part_of p s before) ≡ true
      → (next_in (part_of p s before)).set ≡ false
      → firm_in (day_of s before) (part_of p s before) ≤ firm_in (day_of s (later ++ before)) (part_of p s (later ++ before))
  -- "an open call with last free day t + 10": up to that day a deletion changes no firm amount
  pub firm-until : (d t : ℕ) (own : List Own) → d ≤ t + 10 → firm_in d (act t delete ∷ own) ≡ firm_in d own
  -- "whatever the cover": a deletion's causes and answer are the same before a lodging, a release or an annual run and after it
  pub lodged-alike : (t k : ℕ) (h : Position) (own : List Own)
      → (own_causes t (act t (lodge k h) ∷ own) delete ≡ own_causes t own delete)
      × (own_answer t (act t (lodge k h) ∷ own) delete ≡ own_answer t own delete)
  pub released-alike : (t k a : ℕ) (own : List Own)
      → (own_causes t (act t (release k a) ∷ own) delete ≡ own_causes t own delete)
      × (own_answer t (act t (release k a) ∷ own) delete ≡ own_answer t own delete)
  pub annual-alike : (t : ℕ) (own : List Own)
      → (own_causes t (act t annual_run ∷ own) delete ≡ own_causes t own delete)
      × (own_answer t (act t annual_run ∷ own) delete ≡ own_answer t own delete)
  -- "If it exceeds the firm amount and every open call it becomes an open call": the amounts of open calls still rise ..
  pub rising : (s : ℕ) (calls : List MadeCall) (p : ℕ) → s ≤ 29219 → Rising (open_in (day_of s calls) (part_of p s calls))
  -- .. each but the first exceeds the firm amount ..
  pub others-above : (s : ℕ) (calls : List MadeCall) (p : ℕ) → s ≤ 29219
      → AllAbove (firm_in (day_of s calls) (part_of p s calls)) (drop 1 (open_in (day_of s calls) (part_of p s calls)))
  -- .. and the first too, but for a participant under deletion on 1 to 10 October, whose firm amount a next amount may have raised: 30 September,
  -- 1, 10 and 11 October 2020, 1 October 2021
  pub october-days : map in_first_ten_of_october (273 ∷ 274 ∷ 283 ∷ 284 ∷ 639 ∷ []) ≡ false ∷ true ∷ true ∷ false ∷ true ∷ []
  pub all_above : (s : ℕ) (calls : List MadeCall) (p : ℕ) → s ≤ 29219
      → (leaving_in (part_of p s calls) && in_first_ten_of_october (day_of s calls)) ≡ false
      → AllAbove (firm_in (day_of s calls) (part_of p s calls)) (open_in (day_of s calls) (part_of p s calls))
