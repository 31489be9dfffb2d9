-- A participant's part of a longer history is its part of the shorter one with more in front, so that what each day opened and each accepted call keeps
-- holds of every later history.
-- Assumes nothing.
use Prim.Native.Nat.{ℕ, zero, suc, ◌+◌, ◌-◌, ◌≤◌, min}
use mathlib.Core.Path.{◌≡◌, refl, sym, ap, subst}
use lib.Dec.{eqb}
use mathlib.Core.List.{List, [], ◌∷◌, ◌++◌}
use Rattle.laws.specs.Cases.{by-test}
use Rattle.batch.specs.Batch.{count_in, participant_at}
use Rattle.file.specs.Answer.{accepted}
use Rattle.book.specs.Call.{Act, Call, on, advance, statement, calls_made, batch, part_act}
use Rattle.book.specs.Rule.{MadeCall}
use Rattle.book.specs.Reading.Events.{Event, did, Own, day_opened, act, mine, today_of, with_days}
use Rattle.book.specs.Reading.Decisions.{own_causes, decision, with_parts, with_call, events_of}
use Rattle.book.proofs.Participant.Lawful.{today_in, NoneHolds, Lawful}
use Rattle.book.proofs.History.LawfulCalls.{lawful-events}

-- A list with more in front.
record Longer (old new : List Own) : Type 0 where
  more : List Own
  is : new ≡ more ++ old

itself : (own : List Own) → Longer own own
itself own = record { more = []; is = refl }

one-longer : (old new : List Own) (o : Own) → Longer old new → Longer old (o ∷ new)
one-longer old new o l = record { more = o ∷ l.more; is = ap (λ (own : List Own). o ∷ own) l.is }

-- .. by a call accepted, the days opened, the parts of a batch, and so by any call and by any later calls.
module _ (p : ℕ) (old : List Own) where
  longer-did : (t q : ℕ) (a : Act) (events : List Event) → Longer old (mine p events) → Longer old (mine p (did t q a ∷ events))
  unfolding mine
  longer-did t q a events l =
      by-test (eqb q p) (act t a ∷ mine p events) (mine p events) (Longer old) (λ yes. one-longer old (mine p events) (act t a) l) (λ no. l)

  longer-days : (n t : ℕ) (events : List Event) → Longer old (mine p events) → Longer old (mine p (with_days n t events))
  unfolding with_days mine
  longer-days zero t events l = l
  longer-days (suc n) t events l = one-longer old (mine p (with_days n t events)) (day_opened (t + suc n)) (longer-days n t events l)

  longer-parts : (t : ℕ) (file : List ℕ) (k : ℕ) (events : List Event) → Longer old (mine p events)
      → Longer old (mine p (with_parts t file k events))
  unfolding with_parts
  longer-parts t file zero events l = l
  longer-parts t file (suc k) events l =
      longer-did t (participant_at file k) (part_act file k) (with_parts t file k events) (longer-parts t file k events l)

  longer-call : (s : ℕ) (events : List Event) (c : Call) → Longer old (mine p events) → Longer old (mine p (with_call s events c))
  unfolding with_call
  longer-call s events (on q a) l = longer-did (today_of s events) q a events l
  longer-call s events (advance day budget) l = longer-days (min budget (day - today_of s events)) (today_of s events) events l
  longer-call s events (statement q) l = l
  longer-call s events calls_made l = l
  longer-call s events (batch file) l = longer-parts (today_of s events) file (count_in file) events l

longer : (s : ℕ) (later before : List MadeCall) (p : ℕ) → Longer (mine p (events_of s before)) (mine p (events_of s (later ++ before)))
unfolding events_of
longer s [] before p = itself (mine p (events_of s before))
longer s (e ∷ later) before p =
    let old = mine p (events_of s before) in
    let events = events_of s (later ++ before) in
    by-test (accepted (decision e.rule s events e.call)) (with_call s events e.call) events (λ x. Longer old (mine p x))
    (λ yes. longer-call p old s events e.call (longer s later before p))
    (λ no. longer s later before p)

-- What holds of a part of a history, of it with each next day opened, and of it with each accepted call, holds of all that is longer.
module _ (P : List Own → Type 0) (s : ℕ)
    (by-day : (own : List Own) → Lawful s own → P own → P (day_opened (suc (today_in s own)) ∷ own))
    (by-act : (own : List Own) (a : Act) → Lawful s own → NoneHolds (own_causes (today_in s own) own a) → P own → P (act (today_in s own) a ∷ own)) where
  kept_on : (old more : List Own) → Lawful s (more ++ old) → P old → P (more ++ old)
  kept_on old [] lw h = h
  kept_on old (day_opened d ∷ more) lw h =
      subst (λ (x : ℕ). P (day_opened x ∷ (more ++ old))) (sym lw.0) (by-day (more ++ old) lw.2 (kept_on old more lw.2 h))
  kept_on old (act d a ∷ more) lw h =
      subst (λ (x : ℕ). P (act x a ∷ (more ++ old))) (sym lw.0)
      (by-act (more ++ old) a lw.2 (subst (λ (t : ℕ). NoneHolds (own_causes t (more ++ old) a)) lw.0 lw.1) (kept_on old more lw.2 h))

  pub kept-later : (later before : List MadeCall) (p : ℕ) → s ≤ 29219 → P (mine p (events_of s before))
      → P (mine p (events_of s (later ++ before)))
  kept-later later before p h now =
      let l = longer s later before p in
      subst P (sym l.is)
      (kept_on (mine p (events_of s before)) l.more (subst (Lawful s) l.is (lawful-events s (later ++ before) h p)) now)
