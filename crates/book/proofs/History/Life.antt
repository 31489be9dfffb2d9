-- The claim about every list of calls from a fresh book on any day of the calendar, with nothing assumed.
-- Assumes nothing.
use Prim.Native.Nat.{ℕ, ◌≤◌, ◌<◌}
use mathlib.Core.Path.{◌≡◌, refl, sym, ap, ap₂, subst, subst₂, ◌∙◌}
use mathlib.Core.List.{List, [], ◌∷◌}
use Rattle.laws.specs.Cases.{by-test}
use Rattle.file.specs.declared.File.{File}
use Rattle.file.specs.Answer.{Answer, accepted}
use Rattle.layout.specs.Book.{Book}
use Rattle.book.specs.Call.{Call}
use Rattle.book.specs.Rule.{old_rule, new_rule, MadeCall, history}
use Rattle.book.specs.Account.{file_at, sum_of_counts, answer, step, run}
use Rattle.book.specs.Reading.Events.{Event, Own, day_opened, act, mine, today_of}
use Rattle.book.specs.Reading.Decisions.{calls_below, decision, with_call, events_of}
use Rattle.book.specs.Kept.{file_in, book_in}
use Rattle.book.specs.Life.{answers_of, decisions_of, ReadsAs, ChargedRight, EachDay, NoneHigher, EachCall, Life}
use Rattle.book.specs.Reached.{Given, GivenFirst}
use Rattle.book.proofs.Participant.Lawful.{Lawful}
use Rattle.book.proofs.Participant.DayCharged.{day-counted, day-charged}
use Rattle.book.proofs.History.Events.{LawfulAll}
use Rattle.book.proofs.History.LawfulCalls.{lawful-events}
use Rattle.book.proofs.History.Lift.{file-at, part, counts-are, run_is, decided}
use Rattle.book.proofs.History.OneCount.{answers-before}
use Rattle.book.proofs.History.Private.{tells-alike}
use Rattle.book.proofs.History.Openings.{each-opening}
use Rattle.book.proofs.History.Higher.{call-higher, same-events}

-- The answers of a list are the reading's decisions.
answers-are : (s : ℕ) (calls : List MadeCall) → s ≤ 29219 → answers_of s calls ≡ decisions_of s calls
unfolding answers_of decisions_of
answers-are s [] h = refl
answers-are s (e ∷ before) h = ap₂ ◌∷◌ (decided s before h e.rule e.call) (answers-are s before h)

-- A file of the readings reads as they say.
file-reads : (s p : ℕ) (events : List Event) → LawfulAll s events
    → ReadsAs (today_of s events) (file_in (today_of s events) (mine p events)) (mine p events)
unfolding file_in
file-reads s p events lw =
    record { admitted = refl; leaving = refl; role = refl; firm = refl; cover = (part s events lw p).cover; charged = refl; accrued = refl; made = refl }

-- So does each file of the book that a list of calls leads to.
figures-are : (s : ℕ) (calls : List MadeCall) → s ≤ 29219 → (p : ℕ) → p < 64
    → ReadsAs (today_of s (events_of s calls)) (file_at (run s calls) p) (mine p (events_of s calls))
figures-are s calls h p k =
    let events = events_of s calls in
    subst (λ (f : File). ReadsAs (today_of s events) f (mine p events))
    (sym (ap (λ (b : Book). file_at b p) (run_is s calls h) ∙ file-at s p events k))
    (file-reads s p events (lawful-events s calls h))

-- Each day of a lawful part was charged right.
each-day : (s : ℕ) (own : List Own) → Lawful s own → EachDay own
each-day s [] lw = tt
each-day s (day_opened d ∷ own) lw = (
  (λ e. subst (λ (k : ℕ). ChargedRight k own) (sym lw.0)
      (record { charged = day-counted s own lw.2 e; accrued = day-charged s own lw.2 e })),
  each-day s own lw.2,
)
each-day s (act d a ∷ own) lw = each-day s own lw.2

-- One call that opened no day, after a list of calls.
call-none-higher : (s : ℕ) (before : List MadeCall) (e : MadeCall) → s ≤ 29219
    → today_of s (events_of s (e ∷ before)) ≡ today_of s (events_of s before)
    → NoneHigher (book_in s (events_of s before)) (book_in s (events_of s (e ∷ before)))
unfolding events_of
call-none-higher s before e h =
    let events = events_of s before in
    let lw = lawful-events s before h in
    by-test (accepted (decision e.rule s events e.call)) (with_call s events e.call) events
    (λ x. today_of s x ≡ today_of s events → NoneHigher (book_in s events) (book_in s x))
    (call-higher e.rule s events e.call lw)
    (λ no same. same-events s events lw)

-- Today.
today-is : (s : ℕ) (calls : List MadeCall) → s ≤ 29219 → (run s calls).today.0 ≡ today_of s (events_of s calls)
unfolding book_in
today-is s calls h = ap (λ (b : Book). b.today.0) (run_is s calls h)

-- Each call of a list that opened no day.
each-call : (s : ℕ) (calls : List MadeCall) → s ≤ 29219 → EachCall s calls
each-call s [] h = tt
each-call s (e ∷ before) h = (
  (λ same.
      subst₂ NoneHigher
      (sym (run_is s before h))
      (sym (run_is s (e ∷ before) h))
      (call-none-higher s before e h (sym (today-is s (e ∷ before) h) ∙ same ∙ today-is s before h))),
  each-call s before h,
)

-- The sum of the counts of calls made.
made-is : (s : ℕ) (calls : List MadeCall) → s ≤ 29219 → sum_of_counts (run s calls) ≡ calls_below 64 (events_of s calls)
made-is s calls h = ap sum_of_counts (run_is s calls h) ∙ counts-are s (events_of s calls)

-- Demand 3: for every list of calls from a fresh book on any day, refused ones included.
pub life : (s : ℕ) (calls : List MadeCall) → s ≤ 29219 → Life s calls
life s calls h =
    record {
      answers = answers-are s calls h;
      kept = run_is s calls h;
      figures = figures-are s calls h;
      days = λ p. each-day s (mine p (events_of s calls)) (lawful-events s calls h p);
      openings = each-opening s calls;
      none_higher = each-call s calls h;
      made = made-is s calls h;
      as_before = answers-before s calls h;
      private = λ p other agree. tells-alike s p calls other h agree;
      today = today-is s calls h;
    }

-- What a public call gives, from its two equations.
pub given : (b : Book) (c : Call) (x : Answer) (b' : Book) → x ≡ answer new_rule b c → b' ≡ step new_rule b c → Given b c x b'
unfolding run
given b c x b' answered left =
    record {
      answered = answered;
      left = left;
      reached = λ r.
          record {
            start = r.start;
            within = r.within;
            first = r.first;
            since = c ∷ r.since;
            leads = ap (λ (k : Book). step new_rule k c) r.leads ∙ sym left;
          };
      decided = λ s first since h leads.
          answered ∙ ap (λ (k : Book). answer new_rule k c) (sym leads) ∙ decided s (history first since) h new_rule c;
      reads = λ s first since h leads.
          left ∙ ap (λ (k : Book). step new_rule k c) (sym leads) ∙ run_is s (history first (c ∷ since)) h;
    }

-- .. and a call of a first stretch.
pub given-first : (b : Book) (c : Call) (x : Answer) (b' : Book) → x ≡ answer old_rule b c → b' ≡ step old_rule b c → GivenFirst b c x b'
unfolding run
given-first b c x b' answered left =
    record {
      answered = answered;
      left = left;
      reached = λ r.
          record {
            start = r.start;
            within = r.within;
            first = c ∷ r.first;
            leads = ap (λ (k : Book). step old_rule k c) r.leads ∙ sym left;
          };
      decided = λ s first h leads.
          answered ∙ ap (λ (k : Book). answer old_rule k c) (sym leads) ∙ decided s (history first []) h old_rule c;
      reads = λ s first h leads.
          left ∙ ap (λ (k : Book). step old_rule k c) (sym leads) ∙ run_is s (history (c ∷ first) []) h;
    }
