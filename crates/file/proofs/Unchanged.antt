-- An opening that empties no letter, removes no open call and lets no next amount take effect changes the charges of a file alone.
-- Assumes nothing.
use Prim.Native.Nat.{ℕ, ◌-◌}
use mathlib.Core.Path.{◌≡◌, refl, sym, ap, ◌∙◌}
use mathlib.Core.Bool.{false, not}
use mathlib.Core.List.{List, [], ◌∷◌, map}
use lib.ListN.{length}
use Rattle.std.specs.List.{list_any}
use Rattle.laws.specs.Cases.{cond-true, cond-false, or-first, or-second}
use Rattle.file.specs.declared.Position.TheVariants.{Empty}
use Rattle.file.specs.declared.Slot.{Slot}
use Rattle.file.specs.declared.OpenCall.{OpenCall}
use Rattle.file.specs.declared.File.{File}
use Rattle.file.specs.Position.{slot_of, lapsed_by, emptied_on, cover_on}
use Rattle.file.specs.Fields.{open_calls, cover_of, shortfall_of, unset}
use Rattle.file.specs.Calls.{amounts_of, in_places, keep, ends_at, stays_at, largest}
use Rattle.file.specs.KeepsCalls.{open-count}
use Rattle.file.specs.Opening.{slots_opened, calls_opened, firm_raised, takes_effect, firm_opened, next_opened, shortfall_opened, opened_file}
use Rattle.file.specs.Charges.{changes_on, charges_after}
use Rattle.file.specs.Fields.{with_charges}
use Rattle.file.specs.Sound.{Sound}

-- Positions of which none has lapsed stay.
slots-stay : (d : ℕ) (slots : List Slot) → list_any (λ (s : Slot). lapsed_by d s.position) slots ≡ false
    → map (λ (s : Slot). slot_of (emptied_on d s.position)) slots ≡ slots
unfolding emptied_on
slots-stay d [] h = refl
slots-stay d (s ∷ slots) h =
    λ i. slot_of (cond-false (lapsed_by d s.position) Empty s.position (or-first (lapsed_by d s.position) _ h) i)
    ∷ slots-stay d slots (or-second (lapsed_by d s.position) _ h) i

-- Calls of which none ends stay, and none ends.
calls-stay : (d : ℕ) (calls : List OpenCall) → list_any (ends_at d) calls ≡ false → keep (stays_at d) calls ≡ calls
unfolding keep
calls-stay d [] h = refl
calls-stay d (c ∷ calls) h =
    cond-true (stays_at d c) (c ∷ keep (stays_at d) calls) (keep (stays_at d) calls) (ap not (or-first (ends_at d c) _ h))
    ∙ ap (λ (l : List OpenCall). c ∷ l) (calls-stay d calls (or-second (ends_at d c) _ h))

none-ends : (d : ℕ) (calls : List OpenCall) → list_any (ends_at d) calls ≡ false → keep (ends_at d) calls ≡ []
unfolding keep
none-ends d [] h = refl
none-ends d (c ∷ calls) h =
    cond-false (ends_at d c) (c ∷ keep (ends_at d) calls) (keep (ends_at d) calls) (or-first (ends_at d c) _ h)
    ∙ none-ends d calls (or-second (ends_at d c) _ h)

module _ (f : File) (t d : ℕ) (s : Sound t f) (h : changes_on d f ≡ false) where
  none-lapsed : list_any (λ (x : Slot). lapsed_by d x.position) f.slots ≡ false
  unfolding changes_on
  none-lapsed = or-first (list_any (λ (x : Slot). lapsed_by d x.position) f.slots) _ h

  none-ended : list_any (ends_at d) (open_calls f) ≡ false
  unfolding changes_on
  none-ended = or-first (list_any (ends_at d) (open_calls f)) _ (or-second (list_any (λ (x : Slot). lapsed_by d x.position) f.slots) _ h)

  none-taken : takes_effect f d ≡ false
  unfolding changes_on
  none-taken = or-second (list_any (ends_at d) (open_calls f)) _ (or-second (list_any (λ (x : Slot). lapsed_by d x.position) f.slots) _ h)

  same-slots : slots_opened f d ≡ f.slots
  unfolding slots_opened
  same-slots = slots-stay d f.slots none-lapsed

  same-calls : calls_opened f d ≡ open_calls f
  unfolding calls_opened
  same-calls = calls-stay d (open_calls f) none-ended

  same-firm : firm_opened f d ≡ f.firm
  unfolding firm_opened firm_raised largest
  same-firm =
      cond-false (takes_effect f d) f.next.amount (firm_raised f d) none-taken
      ∙ ap (λ (l : List OpenCall). largest f.firm (amounts_of l)) (none-ends d (open_calls f) none-ended)

  same-next : next_opened f d ≡ f.next
  unfolding next_opened
  same-next = cond-false (takes_effect f d) unset f.next none-taken

  same-shortfall : shortfall_opened f d ≡ shortfall_of f d
  unfolding shortfall_opened shortfall_of cover_of
  same-shortfall = λ i. same-firm i - cover_on d (same-slots i)

  pub unchanged-opened : opened_file f d ≡ with_charges f (charges_after f d)
  unfolding opened_file charges_after
  unchanged-opened =
      rw (same-shortfall)
      (λ i. record {
        admitted = f.admitted;
        leaving = f.leaving;
        role = f.role;
        firm = same-firm i;
        slots = same-slots i;
        calls = (ap in_places same-calls ∙ sym s.places) i;
        count = (ap length same-calls ∙ open-count f t s) i;
        next = same-next i;
        totals = f.totals;
        charged = (charges_after f d).charged;
        accrued = (charges_after f d).accrued;
        made = f.made;
      })
