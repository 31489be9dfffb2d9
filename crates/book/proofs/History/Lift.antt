-- From one participant to the book: the book that a list of calls leads to is the book of the readings, and each answer is the reading's
-- decision.
-- Assumes nothing.
use Prim.Native.Nat.{ℕ, zero, suc, ◌+◌, ◌-◌, ◌≤◌, ◌<◌, min}
use native.Mathlib.Omega.{arith}
use native.Mathlib.Nat.{add-suc, le_refl}
use mathlib.Core.Path.{◌≡◌, refl, sym, ap, subst, ◌∙◌}
use mathlib.Core.Bool.{true, cond, not}
use mathlib.Core.List.{List, [], ◌∷◌, ◌++◌, append-nil}
use borrow.Author.Tests.{ltb-false}
use lib.Dec.{ltb, eqb}
use Rattle.laws.specs.Lists.{table}
use Rattle.laws.specs.Tabulated.{table-ext, get_d-table, set-table-as, replicate-table, map-table}
use Rattle.laws.specs.Cases.{split, cond-true, cond-false}
use Rattle.laws.specs.Sums.{sum-table-more}
use Rattle.std.specs.List.{sum_by}
use Rattle.file.specs.declared.File.{File}
use Rattle.file.specs.Answer.{Answer, Cause, refused, done, counted, decide, accepted, statement_says}
use Rattle.file.specs.Admit.{no_file}
use Rattle.file.specs.Statement.{file_statement}
use Rattle.layout.specs.Book.{Book}
use Rattle.batch.specs.Batch.{count_in, participant_at}
use Rattle.batch.specs.FormLaws.{Whole}
use Rattle.book.specs.Call.{Act, admit, lodge, release, settle, annual_run, delete, Call, on, advance, statement, calls_made, batch, part_act}
use Rattle.book.specs.Account.{fresh_book, file_at, with_file, sum_of_counts, if_numbered, if_admitted, file_answer, file_after, opened_if_admitted}
use Rattle.book.specs.Rule.{Rule, old_rule, new_rule, MadeCall}
use Rattle.book.specs.Account.{unless_retired, answer_on, applied_on, after_parts, part_answer, open_day, open_days, answer, applied, step, run}
use Rattle.book.specs.Reading.Events as E
use Rattle.book.specs.Reading.Events.{Event, did, Own, day_opened, mine, today_of, with_days, admitted_in}
use Rattle.book.specs.Reading.Decisions.{cause, own_causes, own_answer, own_statement, calls_below}
use Rattle.book.specs.Reading.Decisions.{retirement, decision_on, part_decision, decision, with_parts, with_call, events_of}
use Rattle.book.specs.Kept.{file_in, book_in}
use Rattle.book.proofs.Participant.Lawful.{NoneHolds}
use Rattle.book.proofs.Participant.Decide.{decide-first, decide-behind, none_before, last-cause}
use Rattle.book.proofs.Participant.Blank.{blank-file}
use Rattle.book.proofs.Participant.OnePart.{OnePart, one-part}
use Rattle.book.proofs.History.Advances.{open_days-last}
use Rattle.book.proofs.History.Events.{mine-named, mine-other, today-mine, today-days}
use Rattle.book.proofs.History.Events.{LawfulAll, lawful-days, days-within}
use Rattle.book.proofs.History.LawfulCalls.{lawful-events}
use Rattle.book.proofs.History.Parts.{batch-accepted, batch-agree, part-alone}
use Rattle.book.proofs.History.PartEvents.{today-parts, none-of-part, lawful-parts}

-- A path between books from paths of their fields.
book-path : (b c : Book) → b.files ≡ c.files → b.today.0 ≡ c.today.0 → b ≡ c
book-path b c p q = λ i. record { files = p i; today = record { 0 = q i } }

-- A participant's file in the book of the readings.
pub file-at : (s p : ℕ) (events : List Event) → p < 64 → file_at (book_in s events) p ≡ file_in (today_of s events) (mine p events)
unfolding file_at book_in
file-at s p events h = get_d-table 64 (λ q. file_in (today_of s events) (mine q events)) p no_file h

-- The fresh book is the book of no events: nobody is admitted, so every file is blank.
fresh-is : (s : ℕ) → s ≤ 29219 → fresh_book s ≡ book_in s []
unfolding fresh_book book_in today_of mine admitted_in
fresh-is s h =
    book-path (fresh_book s) (book_in s [])
    (replicate-table 64 no_file ∙ ap (λ (f : File). table 64 (λ p. f)) (sym (blank-file s [] h refl s)))
    refl

-- The sum of the counts of the files is the number of calls made to all.
counts-from : (t : ℕ) (events : List Event) (n : ℕ) → sum_by (λ (f : File). f.made) (table n (λ p. file_in t (mine p events))) ≡ calls_below n events
unfolding calls_below file_in
counts-from t events zero = refl
counts-from t events (suc n) =
    omega (arith, sum-table-more (λ (f : File). f.made) n (λ p. file_in t (mine p events)), counts-from t events n)

pub counts-are : (s : ℕ) (events : List Event) → sum_of_counts (book_in s events) ≡ calls_below 64 events
unfolding sum_of_counts book_in
counts-are s events = counts-from (today_of s events) events 64

-- Cause 23 behind the others: by the account it refuses what was accepted, by the reading it is the last cause.
no_more : (t : ℕ) (own : List Own) (a : Act)
    → decide refused (own_causes t own a) (own_answer t own a) ≡ decide refused (own_causes t own a ++ []) (own_answer t own a)
no_more t own a = ap (λ (causes : List Cause). decide refused causes (own_answer t own a)) (sym (append-nil (own_causes t own a)))

registered : (t : ℕ) (own : List Own) (rule : Rule) (a : Act)
    → unless_retired rule a (decide refused (own_causes t own a) (own_answer t own a))
    ≡ decide refused (own_causes t own a ++ retirement rule a) (own_answer t own a)
unfolding own_answer
registered t own old_rule a = no_more t own a
registered t own new_rule (admit role) =
    last-cause 23 (eqb role 1) (own_causes t own (admit role)) done refl
    ∙ sym (decide-behind (own_causes t own (admit role)) (cause 23 (eqb role 1) ∷ []) done)
registered t own new_rule (lodge k h) = no_more t own (lodge k h)
registered t own new_rule (release k a) = no_more t own (release k a)
registered t own new_rule (settle m figures) = no_more t own (settle m figures)
registered t own new_rule annual_run = no_more t own annual_run
registered t own new_rule delete = no_more t own delete

-- What holds of one participant holds of each after lawful events; so one call, or one more day, does to the book what the readings say.
module _ (s : ℕ) (events : List Event) (lw : LawfulAll s events) where
  abbrev t : ℕ
  t = today_of s events

  pub part : (p : ℕ) → OnePart (today_of s events) (mine p events)
  part p = subst (λ (d : ℕ). OnePart d (mine p events)) (today-mine s p events) (one-part s (mine p events) (lw p))

  -- The statement of a participant, cause 2 before it.
  known-statement : (p : ℕ) → p < 64
      → if_admitted (file_at (book_in s events) p) (statement_says (file_statement (file_at (book_in s events) p) t))
      ≡ if_admitted (file_in t (mine p events)) (own_statement t (mine p events))
  known-statement p h =
      ap (λ (f : File). if_admitted f (statement_says (file_statement f t))) (file-at s p events h)
      ∙ ap (if_admitted (file_in t (mine p events))) (part p).stated

  -- The answer to a call that names a participant is the reading's decision, under either rule.
  named-is : (rule : Rule) (p : ℕ) (a : Act) → answer_on rule (book_in s events) p a ≡ decision_on rule s events p a
  unfolding if_numbered book_in
  named-is rule p a =
      decide-first (cause 1 (ltb 63 p)) (own_causes t (mine p events) a ++ retirement rule a)
      (unless_retired rule a (file_answer (file_at (book_in s events) p) t a))
      (own_answer t (mine p events) a)
      (λ e.
      ap (λ (f : File). unless_retired rule a (file_answer f t a)) (file-at s p events (omega (arith, ltb-false 63 p e)))
      ∙ ap (unless_retired rule a) ((part p).answered a)
      ∙ registered t (mine p events) rule a)

  -- Each answer is.
  pub answer-is : (rule : Rule) (c : Call) → answer rule (book_in s events) c ≡ decision rule s events c
  unfolding answer decision part_decision if_numbered if_admitted book_in file_in
  answer-is rule (on p a) = named-is rule p a
  answer-is rule (advance day budget) = refl
  answer-is rule (statement p) =
      decide-first (cause 1 (ltb 63 p)) (cause 2 (not (admitted_in (mine p events))) ∷ [])
      (if_admitted (file_at (book_in s events) p) (statement_says (file_statement (file_at (book_in s events) p) t)))
      (own_statement t (mine p events))
      (λ e. known-statement p (omega (arith, ltb-false 63 p e)))
  answer-is rule calls_made = ap counted (counts-are s events)
  answer-is rule (batch file) =
      batch-agree file (part_answer (book_in s events) file) (part_decision s events file)
      (λ w k h. part-alone (book_in s events) file w k h ∙ named-is new_rule (participant_at file k) (part_act file k))

  -- The book after an accepted call that names a participant: only that participant's file is another.
  did-is : (p : ℕ) (a : Act) → p < 64 → NoneHolds (own_causes t (mine p events) a)
      → applied_on (book_in s events) p a ≡ book_in s (did t p a ∷ events)
  unfolding with_file book_in today_of
  did-is p a h none =
      let new : List Event = did t p a ∷ events in
      let same : file_at (book_in s events) p ≡ file_in t (mine p events) = file-at s p events h in
      book-path (applied_on (book_in s events) p a) (book_in s new)
      (set-table-as 64 (λ q. file_in t (mine q events)) (λ q. file_in t (mine q new)) p (file_after (file_at (book_in s events) p) t a)
      (ap (λ (f : File). file_after f t a) same ∙ (part p).left a none ∙ ap (file_in t) (mine-named t p a events))
      (λ q ne. ap (file_in t) (mine-other t p q a events ne)))
      refl

  -- The book after one more day was opened.
  opened-is : suc t ≤ 29219 → open_day (book_in s events) ≡ book_in s (E.opened (suc t) ∷ events)
  unfolding open_day book_in today_of mine
  opened-is h =
      book-path (open_day (book_in s events)) (book_in s (E.opened (suc t) ∷ events))
      (map-table (opened_if_admitted (suc t)) 64 (λ q. file_in t (mine q events))
      ∙ table-ext 64 (λ q. opened_if_admitted (suc t) (file_in t (mine q events))) (λ q. file_in (suc t) (day_opened (suc t) ∷ mine q events))
      (λ q k. (part q).opened h))
      refl

-- The book after n more days were opened.
days-is : (s n : ℕ) (events : List Event) → LawfulAll s events → today_of s events + n ≤ 29219
    → open_days n (book_in s events) ≡ book_in s (with_days n (today_of s events) events)
unfolding open_days with_days
days-is s zero events lw h = refl
days-is s (suc n) events lw h =
    let t = today_of s events in
    let last = with_days n t events in
    let e : today_of s last ≡ t + n = today-days s n events in
    let next : suc (today_of s last) ≡ t + suc n = ap suc e ∙ sym (add-suc t n) in
    open_days-last n (book_in s events)
    ∙ ap open_day (days-is s n events lw (omega arith))
    ∙ opened-is s last (lawful-days s n events lw (omega arith)) (omega arith)
    ∙ ap (λ (d : ℕ). book_in s (E.opened d ∷ last)) next

-- The book after the settlements of the first k parts of an accepted batch.
pub parts_is : (s : ℕ) (events : List Event) (file : List ℕ) → LawfulAll s events → Whole file → (k : ℕ) → k ≤ count_in file
    → ((j : ℕ) → j < count_in file → accepted (part_decision s events file j) ≡ true)
    → after_parts (book_in s events) file k ≡ book_in s (with_parts (today_of s events) file k events)
unfolding after_parts with_parts
parts_is s events file lw w zero h each = refl
parts_is s events file lw w (suc k) h each =
    let p = participant_at file k in
    let a = part_act file k in
    let last = with_parts (today_of s events) file k events in
    let none = none-of-part s events file w k (omega arith) (each k (omega arith)) in
    ap (λ (b : Book). applied_on b p a) (parts_is s events file lw w k (omega arith) each)
    ∙ did-is s last (lawful-parts s events file lw w k (omega arith) each) p a (omega (arith, ltb-false 63 p none.0)) none.1
    ∙ ap (λ (d : ℕ). book_in s (did d p a ∷ last)) (today-parts s (today_of s events) file k events)

-- The book after an accepted call; a question leaves it as it is.
applied-is : (s : ℕ) (events : List Event) → LawfulAll s events → (rule : Rule) (c : Call)
    → accepted (decision rule s events c) ≡ true → applied (book_in s events) c ≡ book_in s (with_call s events c)
unfolding applied book_in with_call decision
applied-is s events lw rule (on p a) e =
    let t = today_of s events in
    let none = none_before (cause 1 (ltb 63 p)) (own_causes t (mine p events) a) (retirement rule a) (own_answer t (mine p events) a) e in
    did-is s events lw p a (omega (arith, ltb-false 63 p none.0)) none.1
applied-is s events lw rule (advance day budget) e =
    days-is s (min budget (day - today_of s events)) events lw (days-within rule s day budget events e)
applied-is s events lw rule (statement p) e = refl
applied-is s events lw rule calls_made e = refl
applied-is s events lw rule (batch file) e =
    let all = batch-accepted file (part_decision s events file) e in
    parts_is s events file lw all.whole (count_in file) (le_refl (count_in file)) all.each

-- The book after any call.
step_is : (s : ℕ) (events : List Event) → LawfulAll s events → (rule : Rule) (c : Call)
    → step rule (book_in s events) c ≡ book_in s (cond (accepted (decision rule s events c)) (with_call s events c) events)
unfolding step
step_is s events lw rule c =
    let yes = accepted (decision rule s events c) in
    ap (λ (x : Answer). cond (accepted x) (applied (book_in s events) c) (book_in s events)) (answer-is s events lw rule c)
    ∙ split yes
    (λ e. cond-true yes _ _ e ∙ applied-is s events lw rule c e ∙ ap (book_in s) (sym (cond-true yes (with_call s events c) events e)))
    (λ e. cond-false yes _ _ e ∙ ap (book_in s) (sym (cond-false yes (with_call s events c) events e)))

-- The book that a list of calls leads to is the book of the readings.
pub run_is : (s : ℕ) (calls : List MadeCall) → s ≤ 29219 → run s calls ≡ book_in s (events_of s calls)
unfolding run events_of
run_is s [] h = fresh-is s h
run_is s (e ∷ before) h =
    ap (λ (b : Book). step e.rule b e.call) (run_is s before h)
    ∙ step_is s (events_of s before) (lawful-events s before h) e.rule e.call

-- Each answer on the way is the reading's decision.
pub decided : (s : ℕ) (calls : List MadeCall) → s ≤ 29219 → (rule : Rule) (c : Call)
    → answer rule (run s calls) c ≡ decision rule s (events_of s calls) c
decided s calls h rule c =
    ap (λ (b : Book). answer rule b c) (run_is s calls h) ∙ answer-is s (events_of s calls) (lawful-events s calls h) rule c
