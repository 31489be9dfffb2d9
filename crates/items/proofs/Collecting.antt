-- The items by the book are those of the reading: after each call, and after each of the days that an advance opens.
-- Assumes nothing.
use Prim.Native.Nat.{ℕ, zero, suc, ◌+◌, ◌-◌, ◌≤◌, ◌<◌, min}
use native.Mathlib.Omega.{arith}
use native.Mathlib.Nat.{le_refl, add-suc}
use mathlib.Core.Path.{◌≡◌, refl, sym, ap, subst, ◌∙◌}
use mathlib.Core.Bool.{true, cond, ◌||◌}
use mathlib.Core.List.{List, [], ◌∷◌}
use borrow.Author.Tests.{le-ltb}
use lib.Dec.{ltb}
use lib.ListN.{replicate}
use Rattle.laws.specs.Cases.{by-test, cond-true, cond-false}
use Rattle.file.specs.declared.File.{File}
use Rattle.file.specs.Answer.{days_opened, decide, accepted}
use Rattle.layout.specs.Book.{Book}
use Rattle.batch.specs.Batch.{count_in, participant_at}
use Rattle.batch.specs.FormLaws.{Whole}
use Rattle.book.specs.Call.{Act, Call, on, advance, statement, calls_made, batch, part_act}
use Rattle.book.specs.Rule.{Rule, new_rule, MadeCall, under}
use Rattle.book.specs.Account.{file_at, open_day, open_days, days_to_open, answer, applied, step, run}
use Rattle.book.specs.Reading.Events as E
use Rattle.book.specs.Reading.Events.{Event, did, Own, act, mine, today_of, with_days}
use Rattle.book.specs.Reading.Decisions.{cause, own_causes, own_answer, retirement, part_decision, decision, with_parts, with_call, events_of}
use Rattle.book.specs.Kept.{file_in, book_in}
use Rattle.book.specs.Life.{after_calls}
use Rattle.book.specs.Reading.Charges.{days_since}
use Rattle.file.specs.DecideLaws.{none-holds}
use Rattle.book.proofs.Participant.Lawful.{NoneHolds}
use Rattle.book.proofs.Participant.Decide.{none_before}
use Rattle.book.proofs.History.Advances.{not-outside}
use Rattle.book.proofs.History.Events.{mine-did, today-mine, today-days, LawfulAll, lawful-days, days-within}
use Rattle.book.proofs.History.LawfulCalls.{lawful-events}
use Rattle.book.proofs.History.Parts.{batch-accepted}
use Rattle.book.proofs.History.PartEvents.{today-parts, none-of-part, lawful-parts}
use Rattle.book.proofs.History.Lift.{file-at, run_is, decided}
use Rattle.book.proofs.History.Life.{life}
use Rattle.items.specs.declared.Run.{Run}
use Rattle.items.specs.Items.{charged_among, charged_days, items_of, items_in, sum_of_days, sum_of_charges}
use Rattle.items.specs.ByBook.{with_day, over_days, over_call, over_calls, items_by_book, ItemisedByBook, DayByDay}
use Rattle.items.proofs.Itemising.{itemised}
use Rattle.items.proofs.DaysKept.{charged-once, items-after-call, items-after-opening}

-- An accepted call that names a participant leaves everyone's items.
items-did : (s q p : ℕ) (a : Act) (events : List Event) → LawfulAll s events
    → NoneHolds (own_causes (today_of s events) (mine q events) a)
    → items_in (mine p (did (today_of s events) q a ∷ events)) ≡ items_in (mine p events)
items-did s q p a events lw none =
    mine-did (λ k own. items_in own ≡ items_in (mine k events)) (today_of s events) q p a events
    (subst (λ (t : ℕ). NoneHolds (own_causes t (mine q events) a) → items_in (act t a ∷ mine q events) ≡ items_in (mine q events))
    (today-mine s q events)
    (items-after-call s (mine q events) a (lw q))
    none)
    (λ ne. refl)

-- So do the settlements of an accepted batch.
items-parts : (s p : ℕ) (events : List Event) (file : List ℕ) → LawfulAll s events → Whole file → (k : ℕ) → k ≤ count_in file
    → ((j : ℕ) → j < count_in file → accepted (part_decision s events file j) ≡ true)
    → items_in (mine p (with_parts (today_of s events) file k events)) ≡ items_in (mine p events)
unfolding with_parts
items-parts s p events file lw w zero h each = refl
items-parts s p events file lw w (suc k) h each =
    let q = participant_at file k in
    let a = part_act file k in
    let last = with_parts (today_of s events) file k events in
    subst (λ (t : ℕ). items_in (mine p (did t q a ∷ last)) ≡ items_in (mine p last)) (today-parts s (today_of s events) file k events)
    (items-did s q p a last (lawful-parts s events file lw w k (omega arith) each) (none-of-part s events file w k (omega arith) (each k (omega arith))).1)
    ∙ items-parts s p events file lw w k (omega arith) each

-- One more opened day.
items-opened : (s p : ℕ) (events : List Event) → LawfulAll s events → p < 64 → suc (today_of s events) ≤ 29219
    → with_day (file_at (book_in s (E.opened (suc (today_of s events)) ∷ events)) p) (suc (today_of s events)) (items_in (mine p events))
    ≡ items_in (mine p (E.opened (suc (today_of s events)) ∷ events))
unfolding mine today_of
items-opened s p events lw h within =
    let t = today_of s events in
    ap (λ (f : File). with_day f (suc t) (items_in (mine p events))) (file-at s p (E.opened (suc t) ∷ events) h)
    ∙ subst (λ (d : ℕ). suc d ≤ 29219 → with_day (file_in (suc d) (E.day_opened (suc d) ∷ mine p events)) (suc d) (items_in (mine p events))
    ≡ items_in (E.day_opened (suc d) ∷ mine p events))
    (today-mine s p events)
    (items-after-opening s (mine p events) (lw p))
    within

-- The days after today that an advance opens, as far as there are days to its day.
module _ (rule : Rule) (day n : ℕ) (last : day ≤ 29219) where
  -- by the book
  pub opens : (b : Book) → b.today.0 + n ≤ day → step rule b (advance day n) ≡ open_days n b
  unfolding step answer decide applied
  opens b h =
      rw (le-ltb 29219 day last, le-ltb day b.today.0 (omega arith))
      (let e : min n (day - b.today.0) ≡ n = omega arith in ap (λ (k : ℕ). open_days k b) e)

  -- by the reading
  opened-events : (s : ℕ) (calls : List MadeCall) → today_of s (events_of s calls) + n ≤ day
      → events_of s (under rule (advance day n) ∷ calls) ≡ with_days n (today_of s (events_of s calls)) (events_of s calls)
  unfolding events_of decision decide with_call
  opened-events s calls h =
      let t = today_of s (events_of s calls) in
      rw (le-ltb 29219 day last, le-ltb day t (omega arith))
      (let e : min n (day - t) ≡ n = omega arith in ap (λ (k : ℕ). with_days k t (events_of s calls)) e)

  -- The book after them is that of the readings.
  opened-book : (s : ℕ) (calls : List MadeCall) → s ≤ 29219 → today_of s (events_of s calls) + n ≤ day
      → open_days n (run s calls) ≡ book_in s (with_days n (today_of s (events_of s calls)) (events_of s calls))
  unfolding run
  opened-book s calls h k =
      let today = (life s calls h).today in
      sym (opens (run s calls) (omega arith))
      ∙ run_is s (under rule (advance day n) ∷ calls) h
      ∙ ap (book_in s) (opened-events s calls k)

-- So the items collected on them are the reading's.
items-days : (s p : ℕ) (calls : List MadeCall) → s ≤ 29219 → p < 64 → (n : ℕ) → today_of s (events_of s calls) + n ≤ 29219
    → over_days with_day p (run s calls) n (items_in (mine p (events_of s calls)))
    ≡ items_in (mine p (with_days n (today_of s (events_of s calls)) (events_of s calls)))
unfolding over_days with_days
items-days s p calls h low zero le = refl
items-days s p calls h low (suc n) le =
    let events = events_of s calls in
    let t = today_of s events in
    let past = with_days n t events in
    let lw : LawfulAll s past = lawful-days s n events (lawful-events s calls h) (omega arith) in
    let next : suc (today_of s past) ≡ t + suc n = ap suc (today-days s n events) ∙ sym (add-suc t n) in
    let book = opened-book new_rule (t + suc n) (suc n) le s calls h (le_refl (t + suc n)) in
    ap (λ (items : List Run). with_day (file_at (open_days (suc n) (run s calls)) p) (open_days (suc n) (run s calls)).today.0 items)
    (items-days s p calls h low n (omega arith))
    ∙ ap (λ (b : Book). with_day (file_at b p) b.today.0 (items_in (mine p past))) book
    ∙ subst (λ (d : ℕ). d ≤ 29219 → with_day (file_at (book_in s (E.opened d ∷ past)) p) (book_in s (E.opened d ∷ past)).today.0 (items_in (mine p past))
    ≡ items_in (mine p (E.opened d ∷ past)))
    next
    (unfold book_in today_of in items-opened s p past lw low)
    le

-- One accepted call.
items-call : (s p : ℕ) (before : List MadeCall) (rule : Rule) (c : Call) → s ≤ 29219 → p < 64
    → accepted (decision rule s (events_of s before) c) ≡ true
    → over_call with_day p (run s before) c (items_in (mine p (events_of s before))) ≡ items_in (mine p (with_call s (events_of s before) c))
unfolding over_call with_call decision
items-call s p before rule (on q a) h low e =
    let events = events_of s before in
    sym (items-did s q p a events (lawful-events s before h)
    (none_before (cause 1 (ltb 63 q)) (own_causes (today_of s events) (mine q events) a) (retirement rule a)
    (own_answer (today_of s events) (mine q events) a) e).1)
items-call s p before rule (advance day budget) h low e =
    let events = events_of s before in
    let n = min budget (day - today_of s events) in
    ap (λ (t : ℕ). over_days with_day p (run s before) (min budget (day - t)) (items_in (mine p events))) (life s before h).today
    ∙ items-days s p before h low n (days-within rule s day budget events e)
items-call s p before rule (statement q) h low e = refl
items-call s p before rule calls_made h low e = refl
items-call s p before rule (batch file) h low e =
    let events = events_of s before in
    let all = batch-accepted file (part_decision s events file) e in
    sym (items-parts s p events file (lawful-events s before h) all.whole (count_in file) (le_refl (count_in file)) all.each)

-- A list of calls.
pub items-are : (s p : ℕ) (calls : List MadeCall) → s ≤ 29219 → p < 64 → items_by_book p s calls ≡ items_in (mine p (events_of s calls))
unfolding items_by_book over_calls events_of
items-are s p [] h low = unfold mine items_in charged_days days_since charged_among items_of in refl
items-are s p (e ∷ before) h low =
    let events = events_of s before in
    let old = items_in (mine p events) in
    (λ i.
    cond (accepted (decided s before h e.rule e.call i)) (over_call with_day p (run s before) e.call (items-are s p before h low i))
    (items-are s p before h low i))
    ∙ by-test (accepted (decision e.rule s events e.call)) (with_call s events e.call) events
    (λ x. cond (accepted (decision e.rule s events e.call)) (over_call with_day p (run s before) e.call old) old ≡ items_in (mine p x))
    (λ yes. cond-true _ _ old yes ∙ items-call s p before e.rule e.call h low yes)
    (λ no. cond-false _ _ old no)

-- .. with their sums.
pub itemised-by-book : (s p : ℕ) (calls : List MadeCall) → s ≤ 29219 → p < 64 → ItemisedByBook p s calls
itemised-by-book s p calls h low =
    let own = mine p (events_of s calls) in
    let read = (life s calls h).figures p low in
    record {
      items = items-are s p calls h low;
      itemised = itemised own;
      once = charged-once s own (lawful-events s calls h p);
      days = ap sum_of_days (items-are s p calls h low) ∙ (itemised own).days ∙ sym read.charged;
      charges = ap sum_of_charges (items-are s p calls h low) ∙ (itemised own).charges ∙ sym read.accrued;
    }

-- As many advances of a day as an advance opens days.
each-day : (b : Book) (day : ℕ) → day ≤ 29219 → (n : ℕ) → b.today.0 + n ≤ day → after_calls b (replicate n (advance day 1)) ≡ open_days n b
unfolding after_calls open_days
each-day b day last zero h = refl
each-day b day last (suc n) h =
    ap (λ (k : Book). after_calls k (replicate n (advance day 1))) (opens new_rule day 1 last b (omega arith))
    ∙ each-day (open_day b) day last n (unfold open_day in omega arith)

pub day-by-day : (b : Book) (day budget : ℕ) → accepted (answer new_rule b (advance day budget)) ≡ true → DayByDay b day budget
unfolding answer applied
day-by-day b day budget e =
    let within = not-outside day b.today.0 (none-holds (record { number = 17; holds = ltb 29219 day || ltb day b.today.0 } ∷ []) (days_opened (days_to_open b day budget)) e).0 in
    record {
      same = each-day b day within.0 (days_to_open b day budget) (omega (arith, within.1));
      each = λ n h. each-day b day within.0 n (omega (arith, within.1));
    }
