-- A call that opened no day left no admitted participant's shortfall higher, and a newly admitted one began with none.
-- Assumes nothing.
use Prim.Native.Nat.{ℕ, zero, suc, ◌+◌, ◌-◌, ◌≤◌, ◌<◌, min}
use native.Mathlib.Omega.{arith}
use native.Mathlib.Nat.{le_refl}
use mathlib.Core.Path.{◌≡◌, refl, sym, ap, subst, ◌∙◌}
use mathlib.Core.Bool.{true, false}
use mathlib.Core.List.{List, ◌∷◌}
use lib.Dec.{ltb}
use Rattle.laws.specs.Cases.{clash}
use Rattle.file.specs.declared.File.{File}
use Rattle.file.specs.Answer.{accepted}
use Rattle.file.specs.Fields.{shortfall_of}
use Rattle.batch.specs.Batch.{count_in, participant_at}
use Rattle.batch.specs.FormLaws.{Whole}
use Rattle.layout.specs.Book.{Book}
use Rattle.book.specs.Call.{Act, Call, on, advance, statement, calls_made, batch, part_act}
use Rattle.book.specs.Rule.{Rule}
use Rattle.book.specs.Account.{file_at}
use Rattle.book.specs.Reading.Events.{Event, did, mine, today_of, with_days, admitted_in}
use Rattle.book.specs.Reading.Decisions.{cause, own_causes, own_answer, retirement, part_decision, decision, with_parts, with_call}
use Rattle.book.specs.Kept.{file_in, book_in}
use Rattle.book.specs.Life.{NoneHigher}
use Rattle.book.proofs.Participant.Lawful.{NoneHolds}
use Rattle.book.proofs.Participant.Decide.{none_before}
use Rattle.book.proofs.Participant.Shortfalls.{shortfall_in}
use Rattle.book.proofs.History.Events.{mine-did, today-days, LawfulAll, lawful-did}
use Rattle.book.proofs.History.Parts.{batch-accepted}
use Rattle.book.proofs.History.PartEvents.{today-parts, none-of-part, lawful-parts}
use Rattle.book.proofs.History.Lift.{file-at, part}

-- A participant's shortfall by the readings, after some events.
abbrev short : ℕ → ℕ → List Event → ℕ
short s p events = shortfall_in (today_of s events) (mine p events)

-- .. is that of its file in the book of the readings.
short-at : (s p : ℕ) (events : List Event) → LawfulAll s events → p < 64
    → shortfall_of (file_at (book_in s events) p) (today_of s events) ≡ short s p events
short-at s p events lw h =
    ap (λ (f : File). shortfall_of f (today_of s events)) (file-at s p events h) ∙ (part s events lw p).shortfall

admitted-at : (s p : ℕ) (events : List Event) → p < 64 → (file_at (book_in s events) p).admitted ≡ admitted_in (mine p events)
unfolding file_in
admitted-at s p events h = ap (λ (f : File). f.admitted) (file-at s p events h)

-- The claim for two books of readings, by the readings.
by-readings : (s : ℕ) (old new : List Event) → LawfulAll s old → LawfulAll s new
    → ((p : ℕ) → admitted_in (mine p old) ≡ true → short s p new ≤ short s p old)
    → ((p : ℕ) → admitted_in (mine p old) ≡ false → admitted_in (mine p new) ≡ true → short s p new ≡ 0)
    → NoneHigher (book_in s old) (book_in s new)
unfolding book_in
by-readings s old new lo ln kept begun =
    record {
      kept = λ p h a.
          let was = short-at s p old lo h in
          let is = short-at s p new ln h in
          let less = kept p (sym (admitted-at s p old h) ∙ a) in
          omega arith;
      begun = λ p h a b.
          short-at s p new ln h ∙ begun p (sym (admitted-at s p old h) ∙ a) (sym (admitted-at s p new h) ∙ b);
    }

-- A call that left the events as they were.
pub same-events : (s : ℕ) (events : List Event) → LawfulAll s events → NoneHigher (book_in s events) (book_in s events)
same-events s events lw = by-readings s events events lw lw (λ p a. le_refl (short s p events)) (λ p a b. clash b a)

-- An accepted call that names a participant.
did-higher : (s q : ℕ) (a : Act) (events : List Event) → LawfulAll s events
    → NoneHolds (own_causes (today_of s events) (mine q events) a)
    → NoneHigher (book_in s events) (book_in s (did (today_of s events) q a ∷ events))
unfolding today_of
did-higher s q a events lw none =
    let t = today_of s events in
    by-readings s events (did t q a ∷ events) lw (lawful-did s q a events lw none)
    (λ p now.
    mine-did (λ k own. admitted_in (mine k events) ≡ true → shortfall_in t own ≤ short s k events) t q p a events
    ((part s events lw q).kept a none) (λ ne old. le_refl (short s p events)) now)
    (λ p out now.
    mine-did (λ k own. admitted_in (mine k events) ≡ false → admitted_in own ≡ true → shortfall_in t own ≡ 0) t q p a events
    ((part s events lw q).begun a) (λ ne no yes. clash yes no) out now)

-- What is not higher after one call, and not after the next, where the first admitted nobody, is not after both.
both-higher : (b c d : Book) → NoneHigher b c → NoneHigher c d → ((p : ℕ) → p < 64 → (file_at c p).admitted ≡ (file_at b p).admitted)
    → NoneHigher b d
both-higher b c d first next same =
    record {
      kept = λ p h a.
          let one = first.kept p h a in
          let two = next.kept p h (same p h ∙ a) in
          omega arith;
      begun = λ p h a. next.begun p h (same p h ∙ a);
    }

-- A settlement admits nobody.
admitted-parts : (t : ℕ) (file : List ℕ) (k p : ℕ) (events : List Event)
    → admitted_in (mine p (with_parts t file k events)) ≡ admitted_in (mine p events)
unfolding with_parts admitted_in
admitted-parts t file zero p events = refl
admitted-parts t file (suc k) p events =
    mine-did (λ q own. admitted_in own ≡ admitted_in (mine q (with_parts t file k events))) t (participant_at file k) p (part_act file k)
    (with_parts t file k events) refl (λ ne. refl)
    ∙ admitted-parts t file k p events

-- The settlements of the first k parts of an accepted batch.
parts-higher : (s : ℕ) (events : List Event) (file : List ℕ) → LawfulAll s events → Whole file → (k : ℕ) → k ≤ count_in file
    → ((j : ℕ) → j < count_in file → accepted (part_decision s events file j) ≡ true)
    → NoneHigher (book_in s events) (book_in s (with_parts (today_of s events) file k events))
unfolding with_parts
parts-higher s events file lw w zero h each = same-events s events lw
parts-higher s events file lw w (suc k) h each =
    let p = participant_at file k in
    let a = part_act file k in
    let t = today_of s events in
    let last = with_parts t file k events in
    both-higher (book_in s events) (book_in s last) (book_in s (did t p a ∷ last))
    (parts-higher s events file lw w k (omega arith) each)
    (subst (λ (d : ℕ). NoneHigher (book_in s last) (book_in s (did d p a ∷ last))) (today-parts s t file k events)
    (did-higher s p a last (lawful-parts s events file lw w k (omega arith) each)
    (none-of-part s events file w k (omega arith) (each k (omega arith))).1))
    (λ q low. admitted-at s q last low ∙ admitted-parts t file k q events ∙ sym (admitted-at s q events low))

-- Any accepted call that opened no day.
pub call-higher : (rule : Rule) (s : ℕ) (events : List Event) (c : Call) → LawfulAll s events → accepted (decision rule s events c) ≡ true
    → today_of s (with_call s events c) ≡ today_of s events → NoneHigher (book_in s events) (book_in s (with_call s events c))
unfolding with_call with_days decision
call-higher rule s events (on p a) lw e same =
    let t = today_of s events in
    did-higher s p a events lw
    (none_before (cause 1 (ltb 63 p)) (own_causes t (mine p events) a) (retirement rule a) (own_answer t (mine p events) a) e).1
call-higher rule s events (advance day budget) lw e same =
    let n = min budget (day - today_of s events) in
    let grown : today_of s (with_days n (today_of s events) events) ≡ today_of s events + n = today-days s n events in
    let none-opened : 0 ≡ n = omega arith in
    subst (λ (k : ℕ). NoneHigher (book_in s events) (book_in s (with_days k (today_of s events) events))) none-opened
    (same-events s events lw)
call-higher rule s events (statement p) lw e same = same-events s events lw
call-higher rule s events calls_made lw e same = same-events s events lw
call-higher rule s events (batch file) lw e same =
    let all = batch-accepted file (part_decision s events file) e in
    parts-higher s events file lw all.whole (count_in file) (le_refl (count_in file)) all.each
