-- What a book tells a participant hangs on its own calls and the days opened: the readings that decide its answers use nothing else.
-- Assumes nothing.
use Prim.Native.Nat.{ℕ, zero, suc, ◌+◌, ◌-◌, ◌≤◌, min}
use mathlib.Core.Path.{◌≡◌, refl, sym, ap, ◌∙◌}
use mathlib.Core.Bool.{Bool, true, false, cond, not, ◌||◌}
use mathlib.Core.List.{List, [], ◌∷◌}
use borrow.Author.Tests.{eqb-true, eqb-false}
use lib.Dec.{ltb, eqb}
use Rattle.laws.specs.Cases.{split, clash}
use Rattle.file.specs.Answer.{refused, days_opened, accepted, decide}
use Rattle.book.specs.Call.{Act, Call, on, advance, statement, calls_made, batch}
use Rattle.book.specs.Rule.{Rule, MadeCall}
use Rattle.book.specs.Reading.Events.{Event, did, Own, day_opened, act, mine, today_of, with_days, admitted_in}
use Rattle.book.specs.Reading.Decisions.{cause, own_statement, decision, with_call, events_of}
use Rattle.book.specs.Private.{AgreeOn, TellsAlike, concerns, concerning, is_batch, NoBatch}
use Rattle.book.proofs.History.Events.{mine-named, mine-other, same-today, decided-alike}
use Rattle.book.proofs.History.Lift.{decided}

-- ---- what is decided of a participant's own file

module _ (s p : ℕ) (one other : List Event) (agree : mine p one ≡ mine p other) where
  -- today is the same, and so are the decisions
  same-day : today_of s one ≡ today_of s other
  same-day = same-today s p one other agree

  same-statement : (rule : Rule) → decision rule s one (statement p) ≡ decision rule s other (statement p)
  unfolding decision
  same-statement rule =
      λ i. decide refused (cause 1 (ltb 63 p) ∷ cause 2 (not (admitted_in (agree i))) ∷ []) (own_statement (same-day i) (agree i))

  same-call : (rule : Rule) (a : Act) → decision rule s one (on p a) ≡ decision rule s other (on p a)
  unfolding decision
  same-call rule a = decided-alike rule s p a one other agree

  same-advance : (rule : Rule) (day budget : ℕ) → decision rule s one (advance day budget) ≡ decision rule s other (advance day budget)
  unfolding decision
  same-advance rule day budget =
      λ i.
      decide refused (cause 17 (ltb 29219 day || ltb day (same-day i)) ∷ []) (days_opened (min budget (day - same-day i)))

pub tells-alike : (s p : ℕ) (one other : List MadeCall) → s ≤ 29219 → AgreeOn s p one other → TellsAlike s p one other
tells-alike s p one other h agree =
    record {
      statement = λ rule.
          decided s one h rule (statement p)
          ∙ same-statement s p (events_of s one) (events_of s other) agree rule
          ∙ sym (decided s other h rule (statement p));
      calls = λ rule a.
          decided s one h rule (on p a)
          ∙ same-call s p (events_of s one) (events_of s other) agree rule a
          ∙ sym (decided s other h rule (on p a));
    }

-- ---- a participant's own calls and the advances alone

-- The same days opened.
same-days : (p n t : ℕ) (one other : List Event) → mine p one ≡ mine p other → mine p (with_days n t one) ≡ mine p (with_days n t other)
unfolding with_days mine
same-days p zero t one other agree = agree
same-days p (suc n) t one other agree = ap (λ (own : List Own). day_opened (t + suc n) ∷ own) (same-days p n t one other agree)

-- An accepted call, or none.
same-either : (p : ℕ) (c : Bool) (one other x y : List Event) → mine p one ≡ mine p other → mine p x ≡ mine p y
    → mine p (cond c one x) ≡ mine p (cond c other y)
same-either p true one other x y e f = e
same-either p false one other x y e f = f

-- A call of another participant, accepted or not.
others-call : (p q t : ℕ) (a : Act) (c : Bool) (events : List Event) → (q ≡ p → ⊥) → mine p (cond c (did t q a ∷ events) events) ≡ mine p events
others-call p q t a true events ne = sym (mine-other t q p a events (λ e. ne (sym e)))
others-call p q t a false events ne = refl

-- One that leaves the events as they are.
left-alone : (p : ℕ) (c : Bool) (events : List Event) → mine p (cond c events events) ≡ mine p events
left-alone p true events = refl
left-alone p false events = refl

module _ (s p : ℕ) (rule : Rule) (one other : List Event) (agree : mine p one ≡ mine p other) where
  -- an own call, and the events with it where it is accepted
  own-call : (a : Act)
      → mine p (cond (accepted (decision rule s one (on p a))) (did (today_of s one) p a ∷ one) one)
      ≡ mine p (cond (accepted (decision rule s other (on p a))) (did (today_of s other) p a ∷ other) other)
  own-call a =
      (λ i. mine p (cond (accepted (same-call s p one other agree rule a i)) (did (same-day s p one other agree i) p a ∷ one) one))
      ∙ same-either p (accepted (decision rule s other (on p a))) (did (today_of s other) p a ∷ one) (did (today_of s other) p a ∷ other) one other
      (sym (mine-named (today_of s other) p a one) ∙ ap (λ (own : List Own). act (today_of s other) a ∷ own) agree
      ∙ mine-named (today_of s other) p a other)
      agree

  -- an advance
  advanced : (day budget : ℕ)
      → mine p (cond (accepted (decision rule s one (advance day budget))) (with_days (min budget (day - today_of s one)) (today_of s one) one) one)
      ≡ mine p
      (cond (accepted (decision rule s other (advance day budget))) (with_days (min budget (day - today_of s other)) (today_of s other) other) other)
  advanced day budget =
      let t = today_of s other in
      (λ i.
      mine p
      (cond (accepted (same-advance s p one other agree rule day budget i))
      (with_days (min budget (day - same-day s p one other agree i)) (same-day s p one other agree i) one)
      one))
      ∙ same-either p (accepted (decision rule s other (advance day budget))) (with_days (min budget (day - t)) t one)
      (with_days (min budget (day - t)) t other) one other
      (same-days p (min budget (day - t)) t one other agree)
      agree

-- The events with a call's, where it is accepted.
abbrev after : Rule → ℕ → List Event → Call → List Event
after rule s events c = cond (accepted (decision rule s events c)) (with_call s events c) events

-- A call that is no batch: one that doesn't concern the participant leaves its part as it is.
by-call : (s p : ℕ) (rule : Rule) (c : Call) (one other : List Event) → is_batch c ≡ false → mine p one ≡ mine p other
    → mine p (after rule s one c) ≡ mine p (cond (concerns p c) (after rule s other c) other)
unfolding with_call
by-call s p rule (on q a) one other none agree =
    split (eqb q p)
    (λ e. rw (e, eqb-true q p e) (own-call s p rule one other agree a))
    (λ e. rw e (others-call p q (today_of s one) a (accepted (decision rule s one (on q a))) one (eqb-false q p e) ∙ agree))
by-call s p rule (advance day budget) one other none agree = advanced s p rule one other agree day budget
by-call s p rule (statement q) one other none agree = left-alone p (accepted (decision rule s one (statement q))) one ∙ agree
by-call s p rule calls_made one other none agree = left-alone p (accepted (decision rule s one calls_made)) one ∙ agree
by-call s p rule (batch file) one other none agree = clash refl none

-- The events of a list with one more call, or without it.
kept-events : (s : ℕ) (c : Bool) (e : MadeCall) (rest : List MadeCall)
    → cond c (after e.rule s (events_of s rest) e.call) (events_of s rest) ≡ events_of s (cond c (e ∷ rest) rest)
unfolding events_of
kept-events s true e rest = refl
kept-events s false e rest = refl

-- A list without batches, and its calls on a participant's file with its advances, agree on that participant.
agrees : (s p : ℕ) (calls : List MadeCall) → NoBatch calls → AgreeOn s p calls (concerning p calls)
unfolding concerning events_of
agrees s p [] none = refl
agrees s p (e ∷ before) none =
    by-call s p e.rule e.call (events_of s before) (events_of s (concerning p before)) none.0 (agrees s p before none.1)
    ∙ ap (mine p) (kept-events s (concerns p e.call) e (concerning p before))

-- So they tell it the same.
pub alone : (s p : ℕ) (calls : List MadeCall) → s ≤ 29219 → NoBatch calls → TellsAlike s p calls (concerning p calls)
alone s p calls h none = tells-alike s p calls (concerning p calls) h (agrees s p calls none)
