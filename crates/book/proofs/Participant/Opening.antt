-- Opening the next day: what the book's account makes of the file of the readings is the file of the readings with that day opened.
-- Assumes nothing.
use Prim.Native.Nat.{ℕ, suc, ◌+◌, ◌-◌, ◌≤◌}
use native.Mathlib.Omega.{arith}
use mathlib.Core.Path.{◌≡◌, refl, ap, sym, ◌∙◌}
use mathlib.Core.Bool.{true, false, cond, ◌&&◌}
use mathlib.Core.List.{List, [], ◌∷◌}
use lib.Dec.{eqb, ltb}
use lib.ListN.{length}
use borrow.Author.Tests.{ltb-true, lt-ltb}
use Rattle.laws.specs.Lists.{table}
use Rattle.laws.specs.Cases.{split, cond-true, cond-false}
use Rattle.laws.specs.Tabulated.{table-ext, map-table}
use Rattle.calendar.specs.Civil.{is_first_october}
use Rattle.manual.specs.Charge.{day_charge}
use Rattle.file.specs.declared.Slot.{Slot}
use Rattle.file.specs.declared.Position.{Position}
use Rattle.file.specs.declared.Position.TheVariants.{Empty, Cash, Letter}
use Rattle.file.specs.Position.{cover_on, emptied_on, slot_of}
use Rattle.file.specs.Calls.{in_places, keep, stays_at}
use Rattle.file.specs.Fields.{unset}
use Rattle.file.specs.Opening.{slots_opened, calls_opened, firm_raised, takes_effect, firm_opened, next_opened, shortfall_opened, opened_file}
use Rattle.book.specs.Account.{opened_if_admitted}
use Rattle.book.specs.Call.{admit, lodge, release, settle, annual_run, delete}
use Rattle.book.specs.Reading.Events.{Own, day_opened, act, admitted_in, leaving_in, role_in}
use Rattle.book.specs.Reading.Holdings.{last_lodged, released_since, left_at, position_in, lodged_where, released_where, cover_in}
use Rattle.book.specs.Reading.Months.{next_in}
use Rattle.book.specs.Reading.Calls.{calls_in, firm_in, open_in}
use Rattle.book.specs.Reading.Charges.{charged_in, accrued_in}
use Rattle.book.specs.Kept.{ring_in, file_in}
use Rattle.book.proofs.Participant.Lawful.{today_in, Lawful}
use Rattle.book.proofs.Participant.Cover.{cover-is}
use Rattle.book.proofs.Participant.Blank.{blank-file}
use Rattle.book.proofs.Participant.OpenCalls.{open-calls}
use Rattle.book.proofs.Participant.Bases.{next_day, with_next_day, firm-effect, firm-raised}
use Rattle.book.proofs.Participant.OpenCallsNextDay.{open_in-next}
use Rattle.book.proofs.Participant.Days.{charged-opened, accrued-opened}

-- A letter that has lapsed by a day has lapsed by every later one.
pub emptied-later : (d e : ℕ) (p : Position) → d ≤ e → emptied_on e (emptied_on d p) ≡ emptied_on e p
unfolding emptied_on
emptied-later d e Empty h = refl
emptied-later d e (Cash a) h = refl
emptied-later d e (Letter a first last) h =
    split (ltb last.0 d)
    (λ l. rw (l, lt-ltb last.0 e (omega (arith, ltb-true last.0 d l))))
    (λ l. rw l)

-- A next amount that isn't set is the unset one.
pub next-unset : (own : List Own) → (next_in own).set ≡ false → next_in own ≡ unset
unfolding next_in
next-unset [] h = refl
next-unset (day_opened d ∷ own) h =
    split (is_first_october d) (λ e. rw e) (λ e. rw e (next-unset own (rw e at h)))
next-unset (act d (admit role) ∷ own) h = next-unset own h
next-unset (act d (lodge k p) ∷ own) h = next-unset own h
next-unset (act d (release k a) ∷ own) h = next-unset own h
next-unset (act d (settle m figures) ∷ own) h = next-unset own h
next-unset (act d annual_run ∷ own) h = cc
next-unset (act d delete ∷ own) h = next-unset own h

-- The positions on the next day.
pub slots-opened : (t : ℕ) (own : List Own)
    → slots_opened (file_in t own) (suc t) ≡ table 8 (λ k. slot_of (position_in (suc t) k (day_opened (suc t) ∷ own)))
unfolding slots_opened file_in position_in left_at last_lodged released_since
slots-opened t own =
    map-table (λ (s : Slot). slot_of (emptied_on (suc t) s.position)) 8 (λ k. slot_of (position_in t k own))
    ∙ table-ext 8
    (λ k. slot_of (emptied_on (suc t) (emptied_on t (left_at k own))))
    (λ k. slot_of (emptied_on (suc t) (left_at k own)))
    (λ k h. ap slot_of (emptied-later t (suc t) (left_at k own) (omega arith)))

-- The open calls on the next day.
pub calls-opened : (t : ℕ) (own : List Own) → calls_opened (file_in t own) (suc t) ≡ open_in (suc t) (day_opened (suc t) ∷ own)
unfolding calls_opened
calls-opened t own = ap (keep (stays_at (suc t))) (open-calls t own) ∙ sym (open_in-next t own)

-- The next amount on the next day.
pub next-opened : (t : ℕ) (own : List Own) → next_opened (file_in t own) (suc t) ≡ next_in (day_opened (suc t) ∷ own)
unfolding next_opened takes_effect file_in next_in
next-opened t own =
    split (is_first_october (suc t))
    (λ e. rw e (split (next_in own).set (λ f. rw f) (λ f. rw f (next-unset own f))))
    (λ e. rw e)

-- The firm amount on the next day.
pub firm-opened : (s : ℕ) (own : List Own) → Lawful s own
    → firm_opened (file_in (today_in s own) own) (next_day s own) ≡ firm_in (next_day s own) (with_next_day s own)
unfolding firm_opened firm_raised takes_effect file_in
firm-opened s own lw =
    let t = today_in s own in
    split (is_first_october (suc t) && (next_in own).set)
    (λ e. rw e (sym (firm-effect (suc t) own e)))
    (λ e. rw (e, open-calls t own) (sym (firm-raised s own lw e)))

-- The cover of the positions on the next day, and so the shortfall at its opening.
pub cover-opened : (s : ℕ) (own : List Own) → Lawful s own → next_day s own ≤ 29219
    → cover_on (next_day s own) (slots_opened (file_in (today_in s own) own) (next_day s own))
    ≡ cover_in (next_day s own) own
unfolding today_in cover_in lodged_where released_where
cover-opened s own lw h =
    let t = today_in s own in
    ap (cover_on (suc t)) (slots-opened t own) ∙ cover-is s (suc t) (day_opened (suc t) ∷ own) (refl, h, lw) (omega arith)

pub shortfall-read : (s : ℕ) (own : List Own) → Lawful s own → next_day s own ≤ 29219
    → shortfall_opened (file_in (today_in s own) own) (next_day s own)
    ≡ firm_in (next_day s own) (with_next_day s own) - cover_in (next_day s own) own
unfolding shortfall_opened
shortfall-read s own lw h = rw (firm-opened s own lw, cover-opened s own lw h)

-- The days charged and the accrued charge on the next day.
pub charged-read : (s : ℕ) (own : List Own) → Lawful s own → next_day s own ≤ 29219 → admitted_in own ≡ true
    → charged_in own + cond (eqb (shortfall_opened (file_in (today_in s own) own) (next_day s own)) 0) 0 1
    ≡ charged_in (with_next_day s own)
charged-read s own lw h e = rw (shortfall-read s own lw h) (sym (charged-opened s own lw e))

pub accrued-read : (s : ℕ) (own : List Own) → Lawful s own → next_day s own ≤ 29219 → admitted_in own ≡ true
    → accrued_in own + day_charge (shortfall_opened (file_in (today_in s own) own) (next_day s own))
    ≡ accrued_in (with_next_day s own)
accrued-read s own lw h e = rw (shortfall-read s own lw h) (sym (accrued-opened s own lw e))

-- An admitted participant's file: opening the next day, field by field.
pub opened-admitted : (s : ℕ) (own : List Own) → Lawful s own → next_day s own ≤ 29219 → admitted_in own ≡ true
    → opened_file (file_in (today_in s own) own) (next_day s own) ≡ file_in (next_day s own) (with_next_day s own)
unfolding opened_file file_in admitted_in leaving_in role_in ring_in calls_in
opened-admitted s own lw h e =
    let t = today_in s own in
    λ i.
    record {
      admitted = admitted_in own;
      leaving = leaving_in own;
      role = role_in own;
      firm = firm-opened s own lw i;
      slots = slots-opened t own i;
      calls = in_places (calls-opened t own i);
      count = length (calls-opened t own i);
      next = next-opened t own i;
      totals = table 16 (ring_in own);
      charged = charged-read s own lw h e i;
      accrued = accrued-read s own lw h e i;
      made = length (calls_in own);
    }

-- One that isn't admitted stays blank.
pub opened-blank : (s : ℕ) (own : List Own) → Lawful s own → next_day s own ≤ 29219 → admitted_in own ≡ false
    → file_in (next_day s own) (with_next_day s own) ≡ file_in (today_in s own) own
unfolding admitted_in
opened-blank s own lw h e =
    let t = today_in s own in
    blank-file s (day_opened (suc t) ∷ own) (refl, h, lw) e (suc t) ∙ sym (blank-file s own lw e t)

-- Opening the next day: the file of the readings today leads to the file of the readings on that day.
pub day-opened : (s : ℕ) (own : List Own) → Lawful s own → next_day s own ≤ 29219
    → opened_if_admitted (next_day s own) (file_in (today_in s own) own) ≡ file_in (next_day s own) (with_next_day s own)
unfolding opened_if_admitted file_in
day-opened s own lw h =
    let t = today_in s own in
    split (admitted_in own)
    (λ e. cond-true (admitted_in own) (opened_file (file_in t own) (suc t)) (file_in t own) e ∙ opened-admitted s own lw h e)
    (λ e. cond-false (admitted_in own) (opened_file (file_in t own) (suc t)) (file_in t own) e ∙ sym (opened-blank s own lw h e))
