-- Participants under deletion, and open calls, in every history.
-- Assumes nothing.
use Prim.Native.Nat.{ℕ, suc, ◌+◌, ◌-◌, ◌≤◌}
use mathlib.Core.Path.{◌≡◌, refl, sym, ap, subst, ◌∙◌}
use mathlib.Core.Bool.{Bool, true, false, cond, ◌&&◌, and-false}
use mathlib.Core.List.{List, [], ◌∷◌, ◌++◌}
use native.Mathlib.Omega.{arith}
use borrow.Author.Tests.{le-ltb, eqb-true}
use lib.Dec.{eqb}
use lib.ListN.{drop}
use Rattle.laws.specs.Cases.{split, clash}
use Rattle.calendar.specs.Civil.{leap, length_in, length_of, first_day, holding, month_of, day_of_month, is_first_october, in_annual_days, in_deletion_months}
use Rattle.calendar.specs.Laws.{month_of-mono, month_of-first}
use Rattle.file.specs.declared.NextAmount.{NextAmount}
use Rattle.file.specs.Answer.{refused, decide}
use Rattle.file.specs.Calls.{largest, amounts_of, keep, ends_at}
use Rattle.file.specs.Fields.{unset}
use Rattle.book.specs.Call.{Act, admit, lodge, release, settle, annual_run, delete, on}
use Rattle.book.specs.Rule.{Rule, MadeCall}
use Rattle.book.specs.Reading.Events.{Event, Own, day_opened, act, mine, today_of, admitted_in, leaving_in}
use Rattle.book.specs.Reading.Months.{total_in, deletion_in, next_in}
use Rattle.book.specs.Reading.Calls.{Base, base_in, calls_in, firm_in, open_in, deletion_called}
use Rattle.book.specs.Reading.Decisions.{decision, own_causes, own_answer, events_of}
use Rattle.book.proofs.Participant.Lawful.{today_in, NoneHolds, Lawful}
use Rattle.book.proofs.Participant.Blank.{blank-leaving}
use Rattle.book.proofs.Participant.Bases.{base_stays, firm-raised}
use Rattle.book.proofs.Participant.Charges.{firm-settled, firm-deleted}
use Rattle.book.proofs.History.Events.{today-mine}
use Rattle.book.proofs.History.LawfulCalls.{lawful-events}
use Rattle.figures.specs.DeletionLaws.{in_first_ten_of_october, Rising, AllAbove, part_of, day_of, DeletionLaws}
use Rattle.figures.proofs.RisingCalls.{standing-above}
use Rattle.figures.proofs.OpenCalls.{stands}
use Rattle.figures.proofs.Later.{kept-later}

-- ---- the answers

module _ (rule : Rule) (s : ℕ) (events : List Event) (p : ℕ) (number : p ≤ 63) (member : admitted_in (mine p events) ≡ true) where
  outside-months : in_deletion_months (today_of s events) ≡ false → decision rule s events (on p delete) ≡ refused 24
  unfolding decision own_causes decide
  outside-months h = rw (le-ltb 63 p number, member, h) refl

  placed-again : leaving_in (mine p events) ≡ true → decision rule s events (on p delete) ≡ refused 24
  unfolding decision own_causes decide
  placed-again h =
      rw (le-ltb 63 p number, member, h) (split (in_deletion_months (today_of s events)) (λ e. rw e refl) (λ e. rw e refl))

  run-refused : in_annual_days (today_of s events) ≡ true → leaving_in (mine p events) ≡ true → decision rule s events (on p annual_run) ≡ refused 25
  unfolding decision own_causes decide
  run-refused h l = rw (le-ltb 63 p number, member, h, l) refl

-- ---- the status, the next amount and the firm amount

-- A participant under deletion stays so by every call and day.
act-leaving : (t : ℕ) (a : Act) (own : List Own) → leaving_in own ≡ true → leaving_in (act t a ∷ own) ≡ true
unfolding leaving_in
act-leaving t (admit role) own h = h
act-leaving t (lodge k x) own h = h
act-leaving t (release k a) own h = h
act-leaving t (settle m figures) own h = h
act-leaving t annual_run own h = h
act-leaving t delete own h = refl

day-leaving : (d : ℕ) (own : List Own) → leaving_in own ≡ true → leaving_in (day_opened d ∷ own) ≡ true
unfolding leaving_in
day-leaving d own h = h

-- No accepted call sets its next amount.
act-next : (t : ℕ) (a : Act) (own : List Own) → NoneHolds (own_causes t own a) → leaving_in own ≡ true → next_in (act t a ∷ own) ≡ next_in own
unfolding own_causes next_in
act-next t (admit role) own none h = refl
act-next t (lodge k x) own none h = refl
act-next t (release k a) own none h = refl
act-next t (settle m figures) own none h = refl
act-next t annual_run own none h = clash h none.1.1.0
act-next t delete own none h = refl

-- .. nor changes its firm amount today.
act-firm : (s : ℕ) (a : Act) (own : List Own) → Lawful s own → NoneHolds (own_causes (today_in s own) own a) → leaving_in own ≡ true
    → firm_in (today_in s own) (act (today_in s own) a ∷ own) ≡ firm_in (today_in s own) own
unfolding own_causes
act-firm s (admit role) own lw none h = clash h (blank-leaving s own lw none.0)
act-firm s (lodge k x) own lw none h = unfold firm_in base_in calls_in in refl
act-firm s (release k a) own lw none h = unfold firm_in base_in calls_in in refl
act-firm s (settle m figures) own lw none h = firm-settled (today_in s own) (today_in s own) m figures own (omega arith)
act-firm s annual_run own lw none h = clash h none.1.1.0
act-firm s delete own lw none h = firm-deleted (today_in s own) (today_in s own) own (omega arith)

-- A next amount that is set stays until it takes effect.
module _ (s : ℕ) (before : NextAmount) where
  abbrev NextStays : List Own → Type 0
  NextStays own = (leaving_in own ≡ true) × ((next_in own).set ≡ true → next_in own ≡ before)

  next-by-day : (own : List Own) → Lawful s own → NextStays own → NextStays (day_opened (suc (today_in s own)) ∷ own)
  unfolding next_in
  next-by-day own lw h = (
    day-leaving (suc (today_in s own)) own h.0,
    λ set.
        split (is_first_october (suc (today_in s own)))
        (λ e. clash set (ap (λ (b : Bool). (cond b unset (next_in own)).set) e))
        (λ e. rw e (h.1 (sym (ap (λ (b : Bool). (cond b unset (next_in own)).set) e) ∙ set))),
  )

  next-by-act : (own : List Own) (a : Act) → Lawful s own → NoneHolds (own_causes (today_in s own) own a) → NextStays own
      → NextStays (act (today_in s own) a ∷ own)
  next-by-act own a lw none h =
      let same = act-next (today_in s own) a own none h.0 in
      (act-leaving (today_in s own) a own h.0, λ set. same ∙ h.1 (sym (ap (λ (n : NextAmount). n.set) same) ∙ set))

-- .. and as long as the month lasts.
module _ (s month : ℕ) (before : NextAmount) where
  record NextKept (own : List Own) : Type 0 where
    leaving : leaving_in own ≡ true
    since : month ≤ month_of (today_in s own)
    kept : month_of (today_in s own) ≡ month → next_in own ≡ before

  -- A day of the month that follows another of it is no first day of a month.
  no-first : (t : ℕ) → month_of (suc t) ≡ month → month ≤ month_of t → is_first_october (suc t) ≡ false
  unfolding is_first_october day_of_month
  no-first t e h =
      split (eqb (suc t - first_day (month_of (suc t)) + 1) 1)
      (λ one.
      let same : month_of t ≡ month_of (suc t) = omega (arith, e, h, month_of-mono t (suc t) (omega arith)) in
      let begun : first_day (month_of (suc t)) ≤ t = rw same at (month_of-first t) in
      absurd (omega (arith, eqb-true _ 1 one, begun, month_of-first (suc t))))
      (λ other. rw other (simp (and-false)))

  kept-by-day : (own : List Own) → Lawful s own → NextKept own → NextKept (day_opened (suc (today_in s own)) ∷ own)
  unfolding next_in today_in
  kept-by-day own lw h =
      let t = today_in s own in
      let later = month_of-mono t (suc t) (omega arith) in
      record {
        leaving = day-leaving (suc t) own h.leaving;
        since = omega (arith, h.since, later);
        kept = λ e. rw (no-first t e h.since) (h.kept (omega (arith, e, h.since, later)));
      }

  kept-by-act : (own : List Own) (a : Act) → Lawful s own → NoneHolds (own_causes (today_in s own) own a) → NextKept own
      → NextKept (act (today_in s own) a ∷ own)
  unfolding today_in
  kept-by-act own a lw none h =
      record {
        leaving = act-leaving (today_in s own) a own h.leaving;
        since = h.since;
        kept = λ e. act-next (today_in s own) a own none h.leaving ∙ h.kept e;
      }

next-later : (s : ℕ) (later before : List MadeCall) (p : ℕ) → s ≤ 29219 → leaving_in (part_of p s before) ≡ true
    → month_of (day_of s (later ++ before)) ≡ month_of (day_of s before)
    → next_in (part_of p s (later ++ before)) ≡ next_in (part_of p s before)
next-later s later before p le h same =
    let month = month_of (day_of s before) in
    let next = next_in (part_of p s before) in
    let then = today-mine s p (events_of s before) in
    let now = today-mine s p (events_of s (later ++ before)) in
    (kept-later (NextKept s month next) s (kept-by-day s month next) (kept-by-act s month next) later before p le
    (record { leaving = h; since = rw then (omega arith); kept = λ e. refl })).kept
    (ap month_of now ∙ same)

-- With none set R and the base stay.
module _ (s : ℕ) (before : Base) where
  record BaseStays (own : List Own) : Type 0 where
    leaving : leaving_in own ≡ true
    none : (next_in own).set ≡ false
    base : base_in (today_in s own) own ≡ before

  base-by-day : (own : List Own) → Lawful s own → BaseStays own → BaseStays (day_opened (suc (today_in s own)) ∷ own)
  unfolding next_in today_in
  base-by-day own lw h =
      let d = suc (today_in s own) in
      let no-effect : (is_first_october d && (next_in own).set) ≡ false = ap (λ (b : Bool). is_first_october d && b) h.none ∙ and-false (is_first_october d) in
      record {
        leaving = day-leaving d own h.leaving;
        none = split (is_first_october d) (λ e. rw e refl) (λ e. rw e h.none);
        base = base_stays s own lw no-effect ∙ h.base;
      }

  -- No accepted call changes them today.
  act-base : (a : Act) (own : List Own) → Lawful s own → NoneHolds (own_causes (today_in s own) own a) → leaving_in own ≡ true
      → base_in (today_in s own) (act (today_in s own) a ∷ own) ≡ base_in (today_in s own) own
  unfolding own_causes base_in
  act-base (admit role) own lw none h = clash h (blank-leaving s own lw none.0)
  act-base (lodge k x) own lw none h = refl
  act-base (release k a) own lw none h = refl
  act-base (settle m figures) own lw none h = refl
  act-base annual_run own lw none h = refl
  act-base delete own lw none h = refl

  base-by-act : (own : List Own) (a : Act) → Lawful s own → NoneHolds (own_causes (today_in s own) own a) → BaseStays own
      → BaseStays (act (today_in s own) a ∷ own)
  unfolding today_in
  base-by-act own a lw none h =
      record {
        leaving = act-leaving (today_in s own) a own h.leaving;
        none = ap (λ (n : NextAmount). n.set) (act-next (today_in s own) a own none h.leaving) ∙ h.none;
        base = act-base a own lw none h.leaving ∙ h.base;
      }

base-later : (s : ℕ) (later before : List MadeCall) (p : ℕ) → s ≤ 29219 → leaving_in (part_of p s before) ≡ true
    → (next_in (part_of p s before)).set ≡ false
    → base_in (day_of s (later ++ before)) (part_of p s (later ++ before)) ≡ base_in (day_of s before) (part_of p s before)
base-later s later before p le h none =
    let b = base_in (day_of s before) (part_of p s before) in
    let then = today-mine s p (events_of s before) in
    let now = today-mine s p (events_of s (later ++ before)) in
    subst (λ (t : ℕ). base_in t (part_of p s (later ++ before)) ≡ b) now
    (kept-later (BaseStays s b) s (base-by-day s b) (base-by-act s b) later before p le
    (record { leaving = h; none = none; base = rw then refl })).base

-- With none set the firm amount doesn't fall.
largest-least : (a : ℕ) (l : List ℕ) → a ≤ largest a l
unfolding largest
largest-least a [] = omega arith
largest-least a (b ∷ l) = omega (arith, largest-least a l)

module _ (s before : ℕ) where
  record FirmStays (own : List Own) : Type 0 where
    leaving : leaving_in own ≡ true
    none : (next_in own).set ≡ false
    above : before ≤ firm_in (today_in s own) own

  firm-by-day : (own : List Own) → Lawful s own → FirmStays own → FirmStays (day_opened (suc (today_in s own)) ∷ own)
  unfolding next_in today_in
  firm-by-day own lw h =
      let d = suc (today_in s own) in
      let no-effect : (is_first_october d && (next_in own).set) ≡ false = ap (λ (b : Bool). is_first_october d && b) h.none ∙ and-false (is_first_october d) in
      let ended = amounts_of (keep (ends_at d) (open_in (today_in s own) own)) in
      record {
        leaving = day-leaving d own h.leaving;
        none = split (is_first_october d) (λ e. rw e refl) (λ e. rw e h.none);
        above = omega (arith, firm-raised s own lw no-effect, largest-least (firm_in (today_in s own) own) ended, h.above);
      }

  firm-by-act : (own : List Own) (a : Act) → Lawful s own → NoneHolds (own_causes (today_in s own) own a) → FirmStays own
      → FirmStays (act (today_in s own) a ∷ own)
  unfolding today_in
  firm-by-act own a lw none h =
      record {
        leaving = act-leaving (today_in s own) a own h.leaving;
        none = ap (λ (n : NextAmount). n.set) (act-next (today_in s own) a own none h.leaving) ∙ h.none;
        above = omega (arith, act-firm s a own lw none h.leaving, h.above);
      }

firm-later : (s : ℕ) (later before : List MadeCall) (p : ℕ) → s ≤ 29219 → leaving_in (part_of p s before) ≡ true
    → (next_in (part_of p s before)).set ≡ false
    → firm_in (day_of s before) (part_of p s before) ≤ firm_in (day_of s (later ++ before)) (part_of p s (later ++ before))
firm-later s later before p le h none =
    let from = firm_in (day_of s before) (part_of p s before) in
    let same = today-mine s p (events_of s before) in
    let now = today-mine s p (events_of s (later ++ before)) in
    subst (λ (t : ℕ). from ≤ firm_in t (part_of p s (later ++ before))) now
    (kept-later (FirmStays s from) s (firm-by-day s from) (firm-by-act s from) later before p le
    (record { leaving = h; none = none; above = rw same (omega arith) })).above

-- ---- open calls

module _ (s : ℕ) (calls : List MadeCall) (p : ℕ) (h : s ≤ 29219) where
  abbrev today : ℕ
  today = today_in s (part_of p s calls)

  is-today : today ≡ day_of s calls
  is-today = today-mine s p (events_of s calls)

  calls-rise : Rising (open_in (day_of s calls) (part_of p s calls))
  calls-rise =
      subst (λ (t : ℕ). Rising (open_in t (part_of p s calls))) is-today
      (stands s (part_of p s calls) (lawful-events s calls h p)).standing.rising

  rest-above : AllAbove (firm_in (day_of s calls) (part_of p s calls)) (drop 1 (open_in (day_of s calls) (part_of p s calls)))
  rest-above =
      subst (λ (t : ℕ). AllAbove (firm_in t (part_of p s calls)) (drop 1 (open_in t (part_of p s calls)))) is-today
      (stands s (part_of p s calls) (lawful-events s calls h p)).standing.others

  every-above : (leaving_in (part_of p s calls) && in_first_ten_of_october (day_of s calls)) ≡ false
      → AllAbove (firm_in (day_of s calls) (part_of p s calls)) (open_in (day_of s calls) (part_of p s calls))
  every-above e =
      subst (λ (t : ℕ). AllAbove (firm_in t (part_of p s calls)) (open_in t (part_of p s calls))) is-today
      (standing-above today (firm_in today (part_of p s calls)) (leaving_in (part_of p s calls)) (open_in today (part_of p s calls))
      (stands s (part_of p s calls) (lawful-events s calls h p)).standing
      (ap (λ (t : ℕ). leaving_in (part_of p s calls) && in_first_ten_of_october t) is-today ∙ e))

pub deletion-laws : DeletionLaws
unfolding own_causes own_answer admitted_in leaving_in total_in deletion_in next_in base_in calls_in open_in deletion_called in_first_ten_of_october leap
    length_in length_of first_day holding month_of day_of_month
deletion-laws =
    record {
      stays = λ s later before p.
          kept-later (λ own. leaving_in own ≡ true) s (λ own lw. day-leaving (suc (today_in s own)) own)
          (λ own a lw none. act-leaving (today_in s own) a own) later before p;
      outside = outside-months;
      again = placed-again;
      no-annual-run = run-refused;
      next-left = λ t own. refl;
      next-stays = λ s later before p le h set.
          (kept-later (NextStays s (next_in (part_of p s before))) s (next-by-day s (next_in (part_of p s before))) (next-by-act s (next_in (part_of p s before)))
          later before p le (h, λ x. refl)).1 set;
      next-kept = next-later;
      base-stays = base-later;
      firm-stays = firm-later;
      firm-until = firm-deleted;
      lodged-alike = λ t k h own. (refl, refl);
      released-alike = λ t k a own. (refl, refl);
      annual-alike = λ t own. (refl, refl);
      rising = calls-rise;
      others-above = rest-above;
      october-days = refl;
      all_above = every-above;
    }
