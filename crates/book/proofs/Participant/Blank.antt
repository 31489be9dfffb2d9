-- Before the admission everything is blank: every call but an admission had cause 2, so there is none.
-- Assumes nothing.
use Prim.Native.Nat.{ℕ}
use mathlib.Core.Path.{◌≡◌, refl, ap}
use mathlib.Core.Bool.{false, ◌&&◌}
use mathlib.Core.List.{List, [], ◌∷◌}
use borrow.Author.Tests.{not-false}
use lib.Dec.{leb}
use lib.ListN.{length, replicate}
use Rattle.laws.specs.Cases.{clash, by-test}
use Rattle.laws.specs.Lists.{table}
use Rattle.laws.specs.Tabulated.{table-ext}
use Rattle.calendar.specs.Civil.{is_first_october}
use Rattle.file.specs.declared.NextAmount.{NextAmount}
use Rattle.file.specs.declared.Position.TheVariants.{Empty}
use Rattle.file.specs.Position.{slot_of, emptied_on}
use Rattle.file.specs.Calls.{largest, keep, in_places}
use Rattle.file.specs.Fields.{unset}
use Rattle.file.specs.Totals.{no_total}
use Rattle.file.specs.Admit.{no_file}
use Rattle.book.specs.Call.{Act, admit, lodge, release, settle, annual_run, delete}
use Rattle.book.specs.Reading.Events.{Own, day_opened, act, admitted_in, leaving_in, role_in}
use Rattle.book.specs.Reading.Holdings.{last_lodged, left_at, position_in}
use Rattle.book.specs.Reading.Months.{next_in}
use Rattle.book.specs.Reading.Calls.{base_in, firm_from, calls_in, firm_in, open_on, open_in}
use Rattle.book.specs.Reading.Charges.{count_short, sum_charges, charged_in, accrued_in}
use Rattle.book.specs.Reading.Decisions.{own_causes}
use Rattle.book.specs.Kept.{ring_in, file_in}
use Rattle.book.proofs.Participant.Lawful.{NoneHolds, Lawful}
use Rattle.book.proofs.Participant.Charges.{days-none}

-- A list of days opened and nothing else.
abbrev pub DaysOnly : List Own → Type 0
DaysOnly [] = Unit {0}
DaysOnly (day_opened d ∷ own) = DaysOnly own
DaysOnly (act d a ∷ own) = ⊥

-- A call without an admission had cause 2.
unadmitted : (t : ℕ) (own : List Own) (a : Act) → admitted_in (act t a ∷ own) ≡ false → NoneHolds (own_causes t own a) → ⊥
unfolding admitted_in own_causes
unadmitted t own (admit role) e h = clash refl e
unadmitted t own (lodge k p) e h = clash (not-false (admitted_in own) h.0) e
unadmitted t own (release k a) e h = clash (not-false (admitted_in own) h.0) e
unadmitted t own (settle m figures) e h = clash (not-false (admitted_in own) h.0) e
unadmitted t own annual_run e h = clash (not-false (admitted_in own) h.0) e
unadmitted t own delete e h = clash (not-false (admitted_in own) h.0) e

-- Before the admission there are days only.
pub days-only : (s : ℕ) (own : List Own) → Lawful s own → admitted_in own ≡ false → DaysOnly own
days-only s [] lw e = tt
days-only s (day_opened d ∷ own) lw e = days-only s own lw.2 (unfold admitted_in in e)
days-only s (act d a ∷ own) lw e = unadmitted d own a e lw.1

-- Then nothing was lodged or released, called, settled or set, and nobody is under deletion.
leaving-none : (own : List Own) → DaysOnly own → leaving_in own ≡ false
unfolding leaving_in
leaving-none [] h = refl
leaving-none (day_opened d ∷ own) h = leaving-none own h
leaving-none (act d a ∷ own) h = absurd h

role-none : (own : List Own) → DaysOnly own → role_in own ≡ 0
unfolding role_in
role-none [] h = refl
role-none (day_opened d ∷ own) h = role-none own h
role-none (act d a ∷ own) h = absurd h

calls-none : (own : List Own) → DaysOnly own → calls_in own ≡ []
unfolding calls_in
calls-none [] h = refl
calls-none (day_opened d ∷ own) h = calls-none own h
calls-none (act d a ∷ own) h = absurd h

next-none : (own : List Own) → DaysOnly own → next_in own ≡ unset
unfolding next_in
next-none [] h = refl
next-none (day_opened d ∷ own) h =
    by-test (is_first_october d) unset (next_in own) (λ n. n ≡ unset) (λ yes. refl) (λ no. next-none own h)
next-none (act d a ∷ own) h = absurd h

ring-none : (own : List Own) (k : ℕ) → DaysOnly own → ring_in own k ≡ no_total
unfolding ring_in
ring-none [] k h = refl
ring-none (day_opened d ∷ own) k h = ring-none own k h
ring-none (act d a ∷ own) k h = absurd h

lodged-none : (k : ℕ) (own : List Own) → DaysOnly own → last_lodged k own ≡ Empty
unfolding last_lodged
lodged-none k [] h = refl
lodged-none k (day_opened d ∷ own) h = lodged-none k own h
lodged-none k (act d a ∷ own) h = absurd h

base-none : (d : ℕ) (own : List Own) → DaysOnly own → (base_in d own).amount ≡ 0
unfolding base_in
base-none d [] h = refl
base-none d (day_opened e ∷ own) h =
    by-test (leb e d && (is_first_october e && (next_in own).set)) (record { from = e; amount = (next_in own).amount }) (base_in d own)
    (λ b. b.amount ≡ 0)
    (λ yes. ap (λ (n : NextAmount). n.amount) (next-none own h))
    (λ no. base-none d own h)
base-none d (act e a ∷ own) h = absurd h

-- The readings before the admission.
module _ (s : ℕ) (own : List Own) (lw : Lawful s own) (e : admitted_in own ≡ false) where
  pub blank-role : role_in own ≡ 0
  blank-role = role-none own (days-only s own lw e)

  pub blank-leaving : leaving_in own ≡ false
  blank-leaving = leaving-none own (days-only s own lw e)

  pub blank-calls : calls_in own ≡ []
  blank-calls = calls-none own (days-only s own lw e)

  pub blank-next : next_in own ≡ unset
  blank-next = next-none own (days-only s own lw e)

  pub blank-ring : (k : ℕ) → ring_in own k ≡ no_total
  blank-ring k = ring-none own k (days-only s own lw e)

  pub blank-position : (t k : ℕ) → position_in t k own ≡ Empty
  unfolding position_in left_at emptied_on
  blank-position t k = rw (lodged-none k own (days-only s own lw e))

  pub blank-firm : (d : ℕ) → firm_in d own ≡ 0
  unfolding firm_in firm_from keep largest
  blank-firm d = rw blank-calls (base-none d own (days-only s own lw e))

  pub blank-open : (t : ℕ) → open_in t own ≡ []
  unfolding open_in open_on keep
  blank-open t = rw blank-calls

  pub blank-charged : charged_in own ≡ 0
  unfolding charged_in count_short
  blank-charged = rw (days-none own e)

  pub blank-accrued : accrued_in own ≡ 0
  unfolding accrued_in sum_charges
  blank-accrued = rw (days-none own e)

  blank-made : length (calls_in own) ≡ 0
  blank-made = ap length blank-calls

  -- The file of a participant that is not admitted.
  pub blank-slots : (t : ℕ) → table 8 (λ k. slot_of (position_in t k own)) ≡ replicate 8 (slot_of Empty)
  blank-slots t =
      table-ext 8 (λ k. slot_of (position_in t k own)) (λ k. slot_of Empty) (λ k h. ap slot_of (blank-position t k))

  pub blank-totals : table 16 (ring_in own) ≡ replicate 16 no_total
  blank-totals = table-ext 16 (ring_in own) (λ k. no_total) (λ k h. blank-ring k)

  pub blank-file : (t : ℕ) → file_in t own ≡ no_file
  unfolding file_in in_places
  blank-file t = λ i.
      record {
        admitted = e i;
        leaving = blank-leaving i;
        role = blank-role i;
        firm = blank-firm t i;
        slots = blank-slots t i;
        calls = in_places (blank-open t i);
        count = length (blank-open t i);
        next = blank-next i;
        totals = blank-totals i;
        charged = blank-charged i;
        accrued = blank-accrued i;
        made = blank-made i;
      }
