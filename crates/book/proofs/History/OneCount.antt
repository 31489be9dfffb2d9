-- The one count that a book had before: it is the number of calls made to all, and so the sum of the counts of the files, after every list of calls.
-- Assumes nothing.
use Prim.Native.Nat.{ℕ, zero, suc, ◌+◌, ◌-◌, ◌≤◌, ◌<◌, min}
use native.Mathlib.Omega.{arith}
use native.Mathlib.Nat.{le_refl, not-suc-le-zero}
use mathlib.Core.Path.{◌≡◌, refl, sym, ap, ap₂, ◌∙◌}
use mathlib.Core.Bool.{true, cond}
use mathlib.Core.List.{List, [], ◌∷◌}
use borrow.Author.Tests.{ltb-false}
use lib.Dec.{ltb}
use lib.ListN.{length}
use Rattle.laws.specs.Cases.{split}
use Rattle.file.specs.declared.File.{File}
use Rattle.file.specs.Answer.{counted, accepted}
use Rattle.layout.specs.Book.{Book}
use Rattle.batch.specs.Batch.{count_in, participant_at}
use Rattle.batch.specs.FormLaws.{Whole}
use Rattle.book.specs.Call.{Act, Call, on, advance, statement, calls_made, batch, part_act}
use Rattle.book.specs.Rule.{Rule, MadeCall}
use Rattle.book.specs.Account.{file_at, after_parts, answer, run}
use Rattle.book.specs.OneCount.{calls_added, parts_added, added, count_before}
use Rattle.book.specs.Reading.Events as E
use Rattle.book.specs.Reading.Events.{Event, did, Own, act, mine, today_of, with_days}
use Rattle.book.specs.Reading.Calls.{calls_in}
use Rattle.book.specs.Reading.Decisions.{cause, own_causes, own_answer, calls_below, retirement, part_decision, decision, with_parts, with_call, events_of}
use Rattle.book.specs.Kept.{file_in, book_in}
use Rattle.book.proofs.Participant.Lawful.{NoneHolds}
use Rattle.book.proofs.Participant.Decide.{none_before}
use Rattle.book.proofs.History.Events.{mine-did, mine-other, LawfulAll}
use Rattle.book.proofs.History.LawfulCalls.{lawful-events}
use Rattle.book.proofs.History.Lift.{file-at, part, parts_is, run_is, decided}
use Rattle.book.proofs.History.Parts.{batch-accepted}
use Rattle.book.proofs.History.PartEvents.{today-parts, none-of-part, lawful-parts}

-- A call of participant p adds no call to those of the participants below n, where p isn't among them ..
made_other : (n t p : ℕ) (a : Act) (events : List Event) → n ≤ p → calls_below n (did t p a ∷ events) ≡ calls_below n events
unfolding calls_below
made_other zero t p a events h = refl
made_other (suc n) t p a events h =
    ap₂ ◌+◌
    (ap (λ (own : List Own). length (calls_in own)) (sym (mine-other t p n a events (λ e. omega arith))))
    (made_other n t p a events (omega arith))

-- .. and where it is, the k that it makes.
made-named : (n t p : ℕ) (a : Act) (events : List Event) (k : ℕ) → p < n
    → k + length (calls_in (mine p events)) ≡ length (calls_in (act t a ∷ mine p events))
    → calls_below n (did t p a ∷ events) ≡ calls_below n events + k
unfolding calls_below
made-named zero t p a events k h e = absurd (not-suc-le-zero h)
made-named (suc n) t p a events k h e =
    mine-did (λ j own. length (calls_in own) + calls_below j (did t p a ∷ events) ≡ length (calls_in (mine j events)) + calls_below j events + k)
    t p n a events
    (let below = made_other p t p a events (omega arith) in omega arith)
    (λ ne. let rest = made-named n t p a events k (omega arith) e in omega arith)

-- An opened day makes no call.
made-opened : (n d : ℕ) (events : List Event) → calls_below n (E.opened d ∷ events) ≡ calls_below n events
unfolding calls_below mine calls_in
made-opened zero d events = refl
made-opened (suc n) d events = ap (λ (k : ℕ). length (calls_in (mine n events)) + k) (made-opened n d events)

-- Nor do so many.
made-days : (n t : ℕ) (events : List Event) → calls_below 64 (with_days n t events) ≡ calls_below 64 events
unfolding with_days
made-days zero t events = refl
made-days (suc n) t events = made-opened 64 (t + suc n) (with_days n t events) ∙ made-days n t events

-- An accepted call that names a participant adds what the account says.
named-adds : (s : ℕ) (events : List Event) → LawfulAll s events → (p : ℕ) (a : Act) → p < 64 → NoneHolds (own_causes (today_of s events) (mine p events) a)
    → calls_below 64 events + calls_added (file_at (book_in s events) p) (today_of s events) a ≡ calls_below 64 (did (today_of s events) p a ∷ events)
named-adds s events lw p a h none =
    let t = today_of s events in
    ap (λ (f : File). calls_below 64 events + calls_added f t a) (file-at s p events h)
    ∙ sym (made-named 64 t p a events (calls_added (file_in t (mine p events)) t a) h ((part s events lw p).called a none))

-- So do the settlements of the first k parts of an accepted batch.
parts-add : (s : ℕ) (events : List Event) (file : List ℕ) → LawfulAll s events → Whole file → (k : ℕ) → k ≤ count_in file
    → ((j : ℕ) → j < count_in file → accepted (part_decision s events file j) ≡ true)
    → calls_below 64 events + parts_added (book_in s events) file k ≡ calls_below 64 (with_parts (today_of s events) file k events)
unfolding parts_added with_parts book_in
parts-add s events file lw w zero h each = omega arith
parts-add s events file lw w (suc k) h each =
    let t = today_of s events in
    let last = with_parts t file k events in
    let p = participant_at file k in
    let a = part_act file k in
    let none = none-of-part s events file w k (omega arith) (each k (omega arith)) in
    let lwk = lawful-parts s events file lw w k (omega arith) each in
    let same = parts_is s events file lw w k (omega arith) each in
    let one = named-adds s last lwk p a (omega (arith, ltb-false 63 p none.0)) none.1 in
    let before = parts-add s events file lw w k (omega arith) each in
    let added_is : calls_added (file_at (after_parts (book_in s events) file k) p) (after_parts (book_in s events) file k).today.0 a
    ≡ calls_added (file_at (book_in s last) p) (today_of s last) a =
    ap (λ (b : Book). calls_added (file_at b p) b.today.0 a) same in
    let named : calls_below 64 (did (today_of s last) p a ∷ last) ≡ calls_below 64 (did t p a ∷ last) =
    ap (λ (d : ℕ). calls_below 64 (did d p a ∷ last)) (today-parts s t file k events) in
    omega (arith, one, before, added_is, named)

-- So does any accepted call.
call-adds : (s : ℕ) (events : List Event) → LawfulAll s events → (rule : Rule) (c : Call) → accepted (decision rule s events c) ≡ true
    → calls_below 64 events + added (book_in s events) c ≡ calls_below 64 (with_call s events c)
unfolding added with_call decision book_in
call-adds s events lw rule (on p a) e =
    let t = today_of s events in
    let none = none_before (cause 1 (ltb 63 p)) (own_causes t (mine p events) a) (retirement rule a) (own_answer t (mine p events) a) e in
    named-adds s events lw p a (omega (arith, ltb-false 63 p none.0)) none.1
call-adds s events lw rule (advance day budget) e =
    omega (arith, made-days (min budget (day - today_of s events)) (today_of s events) events)
call-adds s events lw rule (statement p) e = omega arith
call-adds s events lw rule calls_made e = omega arith
call-adds s events lw rule (batch file) e =
    let all = batch-accepted file (part_decision s events file) e in
    parts-add s events file lw all.whole (count_in file) (le_refl (count_in file)) all.each

-- A call adds what it makes where it is accepted, and nothing where it is refused.
either-adds : (s : ℕ) (events : List Event) → LawfulAll s events → (rule : Rule) (c : Call)
    → calls_below 64 events + cond (accepted (decision rule s events c)) (added (book_in s events) c) 0
    ≡ calls_below 64 (cond (accepted (decision rule s events c)) (with_call s events c) events)
either-adds s events lw rule c =
    split (accepted (decision rule s events c))
    (λ e. rw e (call-adds s events lw rule c e))
    (λ e. rw e (omega arith))

-- The count of before, after every list of calls.
count-is : (s : ℕ) (calls : List MadeCall) → s ≤ 29219 → count_before s calls ≡ calls_below 64 (events_of s calls)
unfolding count_before events_of mine calls_in calls_below
count-is s [] h = refl
count-is s (e ∷ before) h =
    let events = events_of s before in
    (λ i.
    count-is s before h i
    + cond (accepted (decided s before h e.rule e.call i)) (added (run_is s before h i) e.call) 0)
    ∙ either-adds s events (lawful-events s before h) e.rule e.call

-- The answer to the question for it is the one that the book of before gave.
pub answers-before : (s : ℕ) (calls : List MadeCall) → s ≤ 29219 → (rule : Rule) → answer rule (run s calls) calls_made ≡ counted (count_before s calls)
unfolding decision
answers-before s calls h rule = decided s calls h rule calls_made ∙ ap counted (sym (count-is s calls h))
