-- A file keeps its bounds by every opening, settlement, annual run and deletion.
-- Assumes nothing.
use Rattle.std.specs.Prelude.{ℕ, suc, ◌+◌, ◌*◌, ◌-◌, ◌%◌, ◌≤◌, ◌≡◌, Bool, true, false, cond, ◌&&◌, List, [], ◌∷◌, eqb, length, take, ℤ}
use Rattle.std.proofs.Common.{sym, ap, ◌∙◌, arith, length-take}
use borrow.Author.Tests.{eqb-true, leb-false}
use Rattle.std.proofs.Math.Dec.{leb}
use Rattle.std.proofs.Math.ListN.{length-append}
use Rattle.std.proofs.Math.IntN.{nat_abs}
use Rattle.laws.specs.Lists.{All, all_set, all_take, all_map, all_append}
use Rattle.laws.specs.Cases.{split}
use Rattle.calendar.specs.Civil.{month_of}
use Rattle.manual.specs.Charge.{day_charge}
use Rattle.manual.specs.Figures.{sum_of, wrong_count, out_of_range}
use Rattle.manual.specs.Laws.{day_charge-zero, day_charge-bound, summed-total, annual_amount-bound, deletion_amount-bound}
use Rattle.file.specs.declared.File.{File}
use Rattle.file.specs.declared.Position.{Position}
use Rattle.file.specs.declared.Slot.{Slot}
use Rattle.file.specs.declared.OpenCall.{OpenCall}
use Rattle.file.specs.declared.MonthTotal.{MonthTotal}
use Rattle.file.specs.Answer.{accepted}
use Rattle.file.specs.Position.{cover_on, emptied_on, lapsed_by, slot_of}
use Rattle.file.specs.Calls.{amounts_of, call_of, in_places, keep, ends_at, stays_at}
use Rattle.file.specs.CallLaws.{keep-length, keep_all, largest-bound, amounts-all, in_places-take, in_places-length, in_places-all}
use Rattle.file.specs.Totals.{total_of, total_at, with_total, totals_from}
use Rattle.file.specs.TotalLaws.{totals-within}
use Rattle.file.specs.Fields.{open_calls, set_to, with_totals, with_next, with_deletion}
use Rattle.file.specs.Settle.{settlement_calls, settle_answer, calls_settled, settled_file}
use Rattle.file.specs.Annual.{annual_totals, annual_amount_of, annual_answer, annual_file}
use Rattle.file.specs.Deletion.{deletion_totals, deletion_amount_of, deletion_calls, deletion_answer, calls_deleted, deleted_file}
use Rattle.file.specs.DeletionLaws.{last_within}
use Rattle.file.specs.Opening.{slots_opened, calls_opened, firm_raised, takes_effect, firm_opened, next_opened, shortfall_opened, opened_file}
use Rattle.file.specs.Sound.{Sound, SoundPosition, SoundCall, total_bound}
use Rattle.file.specs.DecideLaws.{none-holds}
use Rattle.file.specs.KeepsPositions.{either-sound, no-call-sound}

-- ---- open calls

-- no more calls are open than are counted
pub open-length : (f : File) → length (open_calls f) ≤ f.count
unfolding open_calls
open-length f = omega (arith, length-take f.count f.calls)

-- as many calls are open as are counted
pub open-count : (f : File) (t : ℕ) → Sound t f → length (open_calls f) ≡ f.count
unfolding open_calls
open-count f t s =
    let few : length (take f.count f.calls) ≤ 4 = omega (arith, length-take f.count f.calls, s.count) in
    let four : length f.calls ≡ 4 = ap length s.places ∙ in_places-length (take f.count f.calls) few in
    omega (arith, length-take f.count f.calls, s.count)

pub open-sound : (f : File) → All SoundCall f.calls → All SoundCall (open_calls f)
unfolding open_calls
open-sound f a = all_take SoundCall f.count f.calls a

-- calls that are put in their places are found there
pub places-kept : (l : List OpenCall) → in_places l ≡ in_places (take (length l) (in_places l))
places-kept l = ap in_places (sym (in_places-take l))

-- ---- an opening

-- a position is within its bounds, or emptied
emptied-sound : (d : ℕ) (p : Position) → SoundPosition p → SoundPosition (emptied_on d p)
unfolding emptied_on
emptied-sound d p s = split (lapsed_by d p) (λ e. rw e tt) (λ e. rw e s)

pub slots-sound : (f : File) (d : ℕ) → All (λ (s : Slot). SoundPosition s.position) f.slots
    → All (λ (s : Slot). SoundPosition s.position) (slots_opened f d)
unfolding slots_opened
slots-sound f d a =
    all_map (λ (s : Slot). SoundPosition s.position) (λ (s : Slot). SoundPosition s.position)
    (λ (s : Slot). slot_of (emptied_on d s.position)) f.slots
    (λ (s : Slot) (h : SoundPosition s.position). emptied-sound d s.position h) a

module _ (f : File) (t d : ℕ) (s : Sound t f) where
  -- the calls that stay
  opened-count : length (calls_opened f d) ≤ 4
  unfolding calls_opened
  opened-count = omega (arith, keep-length (stays_at d) (open_calls f), open-length f, s.count)

  opened-calls : All SoundCall (calls_opened f d)
  unfolding calls_opened
  opened-calls = keep_all (stays_at d) SoundCall (open_calls f) (open-sound f s.calls)

  -- the firm amount
  raised-bound : firm_raised f d ≤ total_bound
  unfolding firm_raised
  raised-bound =
      largest-bound total_bound f.firm (amounts_of (keep (ends_at d) (open_calls f))) s.firm
      (amounts-all total_bound SoundCall (λ (c : OpenCall) (h : SoundCall c). h.amount) (keep (ends_at d) (open_calls f))
      (keep_all (ends_at d) SoundCall (open_calls f) (open-sound f s.calls)))

  pub firm-bound : firm_opened f d ≤ total_bound
  unfolding firm_opened
  firm-bound = split (takes_effect f d) (λ e. rw e s.next) (λ e. rw e raised-bound)

  next-bound : (next_opened f d).amount ≤ total_bound
  unfolding next_opened
  next-bound = split (takes_effect f d) (λ e. rw e (omega arith)) (λ e. rw e s.next)

  -- the shortfall and the charge
  charge-bound : day_charge (shortfall_opened f d) ≤ total_bound
  unfolding shortfall_opened
  charge-bound = day_charge-bound (firm_opened f d - cover_on d (slots_opened f d)) total_bound (omega (arith, firm-bound)) (omega arith)

  accrued-bound : f.accrued + day_charge (shortfall_opened f d) ≤ (f.charged + cond (eqb (shortfall_opened f d) 0) 0 1) * total_bound
  accrued-bound =
      split (eqb (shortfall_opened f d) 0)
      (λ e. rw e (omega (arith, s.accrued, ap day_charge (eqb-true (shortfall_opened f d) 0 e), day_charge-zero)))
      (λ e. rw e (omega (arith, s.accrued, charge-bound)))

-- the file after the next day was opened
pub opened-sound : (f : File) (t : ℕ) → Sound t f → suc t ≤ 29219 → Sound (suc t) (opened_file f (suc t))
unfolding opened_file open_calls calls_opened
opened-sound f t s h =
    let fewer : length (keep (stays_at (suc t)) (take f.count f.calls)) ≤ f.count =
    omega (arith, keep-length (stays_at (suc t)) (take f.count f.calls), length-take f.count f.calls) in
    record {
      day = h;
      slots = slots-sound f (suc t) s.slots;
      calls = in_places-all SoundCall (calls_opened f (suc t)) no-call-sound (opened-calls f t (suc t) s);
      count = opened-count f t (suc t) s;
      places = places-kept (calls_opened f (suc t));
      firm = firm-bound f t (suc t) s;
      next = next-bound f t (suc t) s;
      totals = s.totals;
      charged = split (eqb (shortfall_opened f (suc t)) 0) (λ e. rw e (omega (arith, s.charged))) (λ e. rw e (omega (arith, s.charged)));
      accrued = accrued-bound f t (suc t) s;
      counted = omega (arith, fewer, s.counted);
      made = omega (arith, s.made, s.count);
    }

-- ---- a settlement

module _ (f : File) (t m : ℕ) (figures : List ℤ) (s : Sound t f) (a : accepted (settle_answer f t m figures) ≡ true) where
  -- none of the causes 12, 10, 11 and 13 holds
  free : (wrong_count figures ≡ false) × (out_of_range figures ≡ false) × ((settlement_calls f t m figures && leb 4 (length (open_calls f))) ≡ false)
  unfolding settle_answer
  free =
      let none = none-holds _ _ a in
      (none.1.0, none.1.1.0, none.1.1.1.0)

  -- the total's bound
  total-bound : nat_abs (sum_of figures) ≤ total_bound
  total-bound = summed-total figures free.0 free.1

  settled-totals : All (λ (r : MonthTotal). nat_abs r.total ≤ total_bound) (with_total f.totals m (sum_of figures))
  unfolding with_total
  settled-totals =
      all_set (λ (r : MonthTotal). nat_abs r.total ≤ total_bound) f.totals (m % 16) (total_of m (sum_of figures)) total-bound s.totals

  settled-count : length (calls_settled f t m figures) ≤ 4
  unfolding calls_settled
  settled-count =
      split (settlement_calls f t m figures)
      (λ e.
      let room = leb-false 4 (length (open_calls f)) (sym (ap (λ (b : Bool). b && leb 4 (length (open_calls f))) e) ∙ free.2) in
      rw e (omega (arith, length-append (open_calls f) (call_of (nat_abs (sum_of figures)) (t + 10) ∷ []), room)))
      (λ e. rw e (omega (arith, open-length f, s.count)))

  settled-calls : All SoundCall (calls_settled f t m figures)
  unfolding calls_settled
  settled-calls =
      split (settlement_calls f t m figures)
      (λ e. rw e (all_append SoundCall (open_calls f) (call_of (nat_abs (sum_of figures)) (t + 10) ∷ []) (open-sound f s.calls)
      (record { amount = total-bound; last = omega (arith, s.day) }, tt)))
      (λ e. rw e (open-sound f s.calls))

-- one more call is made where one more is open
settled-made : (f : File) (t m : ℕ) (figures : List ℤ) → Sound t f
    → (length (calls_settled f t m figures) ≤ f.made + cond (settlement_calls f t m figures) 1 0)
    × (f.made + cond (settlement_calls f t m figures) 1 0 ≤ 4 * t + length (calls_settled f t m figures))
unfolding calls_settled
settled-made f t m figures s =
    let c = call_of (nat_abs (sum_of figures)) (t + 10) in
    split (settlement_calls f t m figures)
    (λ e. rw e (
      omega (arith, length-append (open_calls f) (c ∷ []), open-count f t s, s.counted),
      omega (arith, length-append (open_calls f) (c ∷ []), open-count f t s, s.made),
    ))
    (λ e. rw e (omega (arith, open-count f t s, s.counted), omega (arith, open-count f t s, s.made)))

-- the file after a settlement
pub settled-sound : (f : File) (t m : ℕ) (figures : List ℤ) → Sound t f → Sound t (settled_file f t m figures)
unfolding settled_file open_calls
settled-sound f t m figures s =
    either-sound t (accepted (settle_answer f t m figures))
    (with_totals f (with_total f.totals m (sum_of figures)) (calls_settled f t m figures) (cond (settlement_calls f t m figures) 1 0)) f
    (λ a. record {
      day = s.day;
      slots = s.slots;
      calls = in_places-all SoundCall (calls_settled f t m figures) no-call-sound (settled-calls f t m figures s a);
      count = settled-count f t m figures s a;
      places = places-kept (calls_settled f t m figures);
      firm = s.firm;
      next = s.next;
      totals = settled-totals f t m figures s a;
      charged = s.charged;
      accrued = s.accrued;
      counted = (settled-made f t m figures s).0;
      made = (settled-made f t m figures s).1;
    })
    s

-- ---- an annual run

pub annual-bound : (f : File) (t : ℕ) → Sound t f → annual_amount_of f t ≤ total_bound
unfolding annual_amount_of annual_totals
annual-bound f t s =
    annual_amount-bound f.role total_bound (totals_from (total_at f.totals) (month_of t - 14) (month_of t - 2 - (month_of t - 14)))
    (totals-within total_bound f.totals s.totals (month_of t - 14) (month_of t - 2 - (month_of t - 14))) (omega arith)

-- the file after an annual run
pub annual-sound : (f : File) (t : ℕ) → Sound t f → Sound t (annual_file f t)
unfolding annual_file open_calls
annual-sound f t s =
    either-sound t (accepted (annual_answer f t)) (with_next f (set_to (annual_amount_of f t))) f
    (λ a. record {
      day = s.day;
      slots = s.slots;
      calls = s.calls;
      count = s.count;
      places = s.places;
      firm = s.firm;
      next = annual-bound f t s;
      totals = s.totals;
      charged = s.charged;
      accrued = s.accrued;
      counted = s.counted;
      made = s.made;
    })
    s

-- ---- a deletion

pub deletion-bound : (f : File) (t : ℕ) → Sound t f → deletion_amount_of f t ≤ total_bound
unfolding deletion_amount_of deletion_totals
deletion-bound f t s =
    deletion_amount-bound total_bound _
    (last_within total_bound (totals_from (total_at f.totals) (month_of t - 14) (month_of t - 1 - (month_of t - 14)))
    (totals-within total_bound f.totals s.totals (month_of t - 14) (month_of t - 1 - (month_of t - 14))))

module _ (f : File) (t : ℕ) (s : Sound t f) (a : accepted (deletion_answer f t) ≡ true) where
  -- it is no fifth call
  deleted-count : length (calls_deleted f t) ≤ 4
  unfolding calls_deleted deletion_answer
  deleted-count =
      let none = none-holds _ _ a in
      split (deletion_calls f t)
      (λ e.
      let room = leb-false 4 (length (open_calls f)) (sym (ap (λ (b : Bool). b && leb 4 (length (open_calls f))) e) ∙ none.1.0) in
      rw e (omega (arith, length-append (open_calls f) (call_of (deletion_amount_of f t) (t + 10) ∷ []), room)))
      (λ e. rw e (omega (arith, open-length f, s.count)))

  deleted-calls : All SoundCall (calls_deleted f t)
  unfolding calls_deleted
  deleted-calls =
      split (deletion_calls f t)
      (λ e. rw e (all_append SoundCall (open_calls f) (call_of (deletion_amount_of f t) (t + 10) ∷ []) (open-sound f s.calls)
      (record { amount = deletion-bound f t s; last = omega (arith, s.day) }, tt)))
      (λ e. rw e (open-sound f s.calls))

deleted-made : (f : File) (t : ℕ) → Sound t f
    → (length (calls_deleted f t) ≤ f.made + cond (deletion_calls f t) 1 0)
    × (f.made + cond (deletion_calls f t) 1 0 ≤ 4 * t + length (calls_deleted f t))
unfolding calls_deleted
deleted-made f t s =
    let c = call_of (deletion_amount_of f t) (t + 10) in
    split (deletion_calls f t)
    (λ e. rw e (
      omega (arith, length-append (open_calls f) (c ∷ []), open-count f t s, s.counted),
      omega (arith, length-append (open_calls f) (c ∷ []), open-count f t s, s.made),
    ))
    (λ e. rw e (omega (arith, open-count f t s, s.counted), omega (arith, open-count f t s, s.made)))

-- the file after a deletion
pub deleted-sound : (f : File) (t : ℕ) → Sound t f → Sound t (deleted_file f t)
unfolding deleted_file open_calls
deleted-sound f t s =
    either-sound t (accepted (deletion_answer f t)) (with_deletion f (calls_deleted f t) (cond (deletion_calls f t) 1 0)) f
    (λ a. record {
      day = s.day;
      slots = s.slots;
      calls = in_places-all SoundCall (calls_deleted f t) no-call-sound (deleted-calls f t s a);
      count = deleted-count f t s a;
      places = places-kept (calls_deleted f t);
      firm = s.firm;
      next = s.next;
      totals = s.totals;
      charged = s.charged;
      accrued = s.accrued;
      counted = (deleted-made f t s).0;
      made = (deleted-made f t s).1;
    })
    s
