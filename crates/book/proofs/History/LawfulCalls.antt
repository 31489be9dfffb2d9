-- Every list of calls has lawful events: those of each accepted call are lawful behind lawful ones.
-- Assumes nothing.
use Prim.Native.Nat.{ℕ, ◌-◌, ◌≤◌, min}
use native.Mathlib.Nat.{le_refl}
use mathlib.Core.Path.{◌≡◌}
use mathlib.Core.Bool.{true}
use mathlib.Core.List.{List, [], ◌∷◌}
use lib.Dec.{ltb}
use Rattle.laws.specs.Cases.{by-test}
use Rattle.batch.specs.Batch.{count_in}
use Rattle.file.specs.Answer.{accepted}
use Rattle.book.specs.Call.{Call, on, advance, statement, calls_made, batch}
use Rattle.book.specs.Rule.{Rule, MadeCall}
use Rattle.book.specs.Reading.Events.{Event, mine, today_of}
use Rattle.book.specs.Reading.Decisions.{cause, own_causes, own_answer, retirement, decision, part_decision, with_call, events_of}
use Rattle.book.proofs.Participant.Decide.{none_before}
use Rattle.book.proofs.History.Parts.{batch-accepted}
use Rattle.book.proofs.History.Events.{LawfulAll, lawful-did, lawful-days, days-within}
use Rattle.book.proofs.History.PartEvents.{lawful-parts}

-- .. with an accepted call's events.
pub lawful-call : (rule : Rule) (s : ℕ) (events : List Event) (c : Call) → LawfulAll s events → accepted (decision rule s events c) ≡ true
    → LawfulAll s (with_call s events c)
unfolding with_call decision
lawful-call rule s events (on p a) lw e =
    lawful-did s p a events lw
    (none_before (cause 1 (ltb 63 p)) (own_causes (today_of s events) (mine p events) a) (retirement rule a)
    (own_answer (today_of s events) (mine p events) a) e).1
lawful-call rule s events (advance day budget) lw e =
    lawful-days s (min budget (day - today_of s events)) events lw (days-within rule s day budget events e)
lawful-call rule s events (statement p) lw e = lw
lawful-call rule s events calls_made lw e = lw
lawful-call rule s events (batch file) lw e =
    let all = batch-accepted file (part_decision s events file) e in
    lawful-parts s events file lw all.whole (count_in file) (le_refl (count_in file)) all.each

-- Every list of calls has lawful events.
pub lawful-events : (s : ℕ) (calls : List MadeCall) → s ≤ 29219 → LawfulAll s (events_of s calls)
unfolding events_of mine
lawful-events s [] le = λ p. le
lawful-events s (e ∷ before) le =
    let events = events_of s before in
    by-test (accepted (decision e.rule s events e.call)) (with_call s events e.call) events (LawfulAll s)
    (λ yes. lawful-call e.rule s events e.call (lawful-events s before le) yes)
    (λ no. lawful-events s before le)
