-- What the opening of a day does to one position and to one open call, by the tests that the code makes. Assumes nothing.
use Prim.Native.Nat.{ℕ, zero, suc, ◌+◌, ◌-◌, ◌≤◌, ◌<◌, max}
use mathlib.Core.Path.{◌≡◌, refl, sym, ◌∙◌, ap}
use mathlib.Core.Bool.{Bool, true, false, cond, not}
use mathlib.Core.List.{List, [], ◌∷◌, ◌++◌, map}
use native.Mathlib.Omega.{arith}
use native.Mathlib.Numerals.{add-one}
use borrow.Author.Tests.{lt-ltb, ne_eqb}
use mir.Val.{bool_byte}
use lib.Dec.{ltb, eqb}
use lib.ListN.{length, take, set, get_or, replicate, length-append, length-take}
use lib.Seq.{take-suc, take_all}
use Rattle.manual.specs.Charge.{day_charge}
use Rattle.manual.specs.Laws.{day_charge-bound}
use Rattle.laws.specs.Lists.{All}
use Rattle.laws.specs.Cases.{cond-true, cond-false}
use Rattle.laws.specs.Places.{up_to, up_to-none, up_to-turn, up_to-all}
use Rattle.file.specs.declared.Position.TheVariants.{Empty}
use Rattle.file.specs.declared.Slot.{Slot}
use Rattle.file.specs.declared.OpenCall.{OpenCall}
use Rattle.file.specs.declared.File.{File}
use Rattle.file.specs.declared.Charges.{Charges}
use Rattle.file.specs.Position.{slot_of, lapsed_by, emptied_on, cover_on}
use Rattle.file.specs.Fields.{open_calls, with_slots}
use Rattle.file.specs.Charges.{charges_of, charged_for}
use Rattle.file.specs.Opening.{slots_opened, calls_opened, firm_raised, takes_effect, firm_opened, next_opened, shortfall_opened, opened_file}
use Rattle.file.specs.Calls.{largest, amounts_of, call_of, in_places, keep, ends_at, stays_at}
use Rattle.file.specs.CallLaws.{keep-more, keep_same, keep-length, largest-more, amounts-append, in_places-next}
use Rattle.file.specs.Ending.{calls_passed, calls_ended, next_taken}
use Rattle.file.specs.Sound.{Sound, SoundPosition, total_bound}
use Rattle.file.specs.KeepsCalls.{open-length, slots-sound, firm-bound}

-- ---- the loop over the positions

-- one slot at the opening of a day
abbrev pub slot_at : ℕ → Slot → Slot
slot_at d s = slot_of (emptied_on d s.position)

-- with none passed
pub slots-none : (d : ℕ) (slots : List Slot) → slots ≡ up_to (slot_at d) 0 slots
slots-none d slots = sym (up_to-none (slot_at d) slots)

-- the next slot: one that has lapsed is emptied, any other stays
module _ (slots slots₀ : List Slot) (z : Slot) (lapsed : Bool) (d i : ℕ) (n : length slots₀ ≡ 8) (h : i < 8)
    (e : slots ≡ up_to (slot_at d) i slots₀) (q : lapsed ≡ lapsed_by d (get_or slots i z).position) where
  pub slots-lapsed : lapsed ≡ true → set slots i (slot_of Empty) ≡ up_to (slot_at d) (i + 1) slots₀
  unfolding emptied_on
  slots-lapsed t =
      up_to-turn (slot_at d) slots slots₀ i 8 (get_or slots i z) (slot_of Empty) z n h e refl
      (ap slot_of (sym (cond-true _ Empty (get_or slots i z).position (sym q ∙ t))))

  pub slots-stay : lapsed ≡ false → set slots i (get_or slots i z) ≡ up_to (slot_at d) (i + 1) slots₀
  unfolding emptied_on
  slots-stay t =
      up_to-turn (slot_at d) slots slots₀ i 8 (get_or slots i z) (get_or slots i z) z n h e refl
      (ap slot_of (sym (cond-false _ Empty (get_or slots i z).position (sym q ∙ t))))

-- with all passed
pub slots-all : (slots slots₀ : List Slot) (d i : ℕ) → length slots₀ ≡ 8 → 8 ≤ i → slots ≡ up_to (slot_at d) i slots₀ → slots ≡ map (slot_at d) slots₀
slots-all slots slots₀ d i n h e = e ∙ up_to-all (slot_at d) i slots₀ (omega arith)

-- ---- an open call

-- the file with another firm amount, and with one more open call
abbrev pub with_firm : File → ℕ → File
with_firm f firm =
    record {
      admitted = f.admitted;
      leaving = f.leaving;
      role = f.role;
      firm = firm;
      slots = f.slots;
      calls = f.calls;
      count = f.count;
      next = f.next;
      totals = f.totals;
      charged = f.charged;
      accrued = f.accrued;
      made = f.made;
    }

abbrev pub with_call : File → OpenCall → File
with_call f c =
    record {
      admitted = f.admitted;
      leaving = f.leaving;
      role = f.role;
      firm = f.firm;
      slots = f.slots;
      calls = set f.calls f.count c;
      count = f.count + 1;
      next = f.next;
      totals = f.totals;
      charged = f.charged;
      accrued = f.accrued;
      made = f.made;
    }

-- one more call is passed: it ends and raises the firm amount, or it takes the next place
module _ (f r : File) (c : OpenCall) (d : ℕ) (passed : List OpenCall) (e : r ≡ calls_passed d f passed) where
  pub call_ends : ends_at d c ≡ true → with_firm r (max r.firm c.amount) ≡ calls_passed d f (passed ++ c ∷ [])
  unfolding calls_passed
  call_ends t =
      let stay : keep (stays_at d) (passed ++ c ∷ []) ≡ keep (stays_at d) passed = keep_same (stays_at d) passed c (ap not t) in
      let stop : keep (ends_at d) (passed ++ c ∷ []) ≡ keep (ends_at d) passed ++ c ∷ [] = keep-more (ends_at d) passed c t in
      let more = largest-more f.firm c.amount (amounts_of (keep (ends_at d) passed)) in
      let top : max (largest f.firm (amounts_of (keep (ends_at d) passed))) c.amount
      ≡ largest f.firm (amounts_of (keep (ends_at d) passed) ++ c.amount ∷ []) = omega (arith, more) in
      rw (e, stay, stop, amounts-append, top) refl

  pub call_stays : ends_at d c ≡ false → length passed < 4 → with_call r c ≡ calls_passed d f (passed ++ c ∷ [])
  unfolding calls_passed
  call_stays t h =
      let stay : keep (stays_at d) (passed ++ c ∷ []) ≡ keep (stays_at d) passed ++ c ∷ [] = keep-more (stays_at d) passed c (ap not t) in
      let stop : keep (ends_at d) (passed ++ c ∷ []) ≡ keep (ends_at d) passed = keep_same (ends_at d) passed c t in
      let short : length (keep (stays_at d) passed) < 4 = omega (arith, keep-length (stays_at d) passed) in
      rw (e, stay, stop, in_places-next, length-append) refl

  -- there is a place for it
  pub place_left : length passed < 4 → r.count < 4
  unfolding calls_passed
  place_left h = omega (arith, ap (λ (g : File). g.count) e, keep-length (stays_at d) passed)

-- the first of the places are the open calls
pub open_are : (f : File) → take f.count f.calls ≡ open_calls f
unfolding open_calls
open_are f = refl

-- one more of them is passed, in a loop
module _ (f r : File) (d i : ℕ) (items : List OpenCall) (z : OpenCall) (short : i < length items) (items-are : items ≡ open_calls f) (few : f.count ≤ 4)
    (e : r ≡ calls_passed d f (take i (open_calls f))) where
  next : take (i + 1) (open_calls f) ≡ take i (open_calls f) ++ get_or items i z ∷ []
  next = rw (← items-are) (rw (add-one, take-suc items i z short) refl)

  below : length (take i (open_calls f)) < 4
  below = omega (arith, length-take i (open_calls f), ap length items-are, open-length f)

  pub ends-next : (m : ℕ) → ends_at d (get_or items i z) ≡ true → m ≡ max r.firm (get_or items i z).amount
      → with_firm r m ≡ calls_passed d f (take (i + 1) (open_calls f))
  ends-next m t k = ap (with_firm r) k ∙ call_ends f r (get_or items i z) d (take i (open_calls f)) e t ∙ ap (calls_passed d f) (sym next)

  pub stays-next : ends_at d (get_or items i z) ≡ false → with_call r (get_or items i z) ≡ calls_passed d f (take (i + 1) (open_calls f))
  stays-next t = call_stays f r (get_or items i z) d (take i (open_calls f)) e t below ∙ ap (calls_passed d f) (sym next)

  pub place_next : r.count < 4
  place_next = place_left f r z d (take i (open_calls f)) e below

-- with none passed, and with all
pub calls_none : (d : ℕ) (f : File)
    → record {
      admitted = f.admitted;
      leaving = f.leaving;
      role = f.role;
      firm = f.firm;
      slots = f.slots;
      calls = replicate 4 (call_of 0 0);
      count = 0;
      next = f.next;
      totals = f.totals;
      charged = f.charged;
      accrued = f.accrued;
      made = f.made;
    }
    ≡ calls_passed d f []
unfolding calls_passed keep largest in_places
calls_none d f = refl

pub calls_all : (f r : File) (d i : ℕ) (items : List OpenCall) → items ≡ open_calls f → length items ≤ i → r ≡ calls_passed d f (take i (open_calls f))
    → r ≡ calls_ended d f
unfolding calls_ended
calls_all f r d i items e h p = p ∙ ap (calls_passed d f) (take_all i (open_calls f) (omega (arith, ap length e)))

-- ---- the charges

charged-one : (shortfall : ℕ) → bool_byte (ltb 0 shortfall) ≡ cond (eqb shortfall 0) 0 1
charged-one zero = refl
charged-one (suc n) = rw (ne_eqb (suc n) 0 (λ (e : suc n ≡ 0). omega arith), lt-ltb 0 (suc n) (omega arith)) refl

pub charged-few : (shortfall : ℕ) → bool_byte (ltb 0 shortfall) ≤ 1
charged-few zero = omega arith
charged-few (suc n) = rw (lt-ltb 0 (suc n) (omega arith)) (omega arith)

pub charges-after : (c : Charges) (shortfall charge : ℕ) → charge ≡ day_charge shortfall
    → record { charged = c.charged + bool_byte (ltb 0 shortfall); accrued = c.accrued + charge } ≡ charged_for c shortfall
charges-after c shortfall charge e =
    λ i. record { charged = c.charged + charged-one shortfall i; accrued = c.accrued + e i }

-- The charges of a file that was sound on the day before have room for another day.
pub charges-fit : (f : File) (t : ℕ) (c : Charges) (shortfall : ℕ) → Sound t f → t < 29219 → c ≡ charges_of f → shortfall ≤ total_bound
    → (c.charged < 18446744073709551615) × (c.accrued + day_charge shortfall < 18446744073709551616)
charges-fit f t c shortfall s h e few =
    let bound : day_charge shortfall ≤ total_bound = day_charge-bound shortfall total_bound few (omega arith) in
    let days : c.charged ≡ f.charged = ap (λ (x : Charges). x.charged) e in
    let mills : c.accrued ≡ f.accrued = ap (λ (x : Charges). x.accrued) e in
    (omega (arith, s.charged), omega (arith, s.charged, s.accrued, bound))

-- ---- the file

module _ (f : File) (d : ℕ) (slots : List Slot) (slots-is : slots ≡ map (slot_at d) f.slots) (g h : File) (ended : g ≡ calls_ended d (with_slots f slots))
    (taken : h ≡ next_taken d g) where
  file-slots : h.slots ≡ slots_opened f d
  unfolding slots_opened next_taken calls_ended calls_passed
  file-slots = rw (taken, ended, slots-is) refl

  file-firm : h.firm ≡ firm_opened f d
  unfolding firm_opened takes_effect firm_raised open_calls next_taken calls_ended calls_passed
  file-firm = rw (taken, ended) refl

  file-charges : charges_of h ≡ charges_of f
  unfolding next_taken calls_ended calls_passed
  file-charges = rw (taken, ended) refl

  -- the emptied positions are within their bounds
  pub opened-slots : All (λ (s : Slot). SoundPosition s.position) f.slots → All (λ (s : Slot). SoundPosition s.position) h.slots
  opened-slots a = rw file-slots (slots-sound f d a)

  module _ (covered shortfall : ℕ) (c : covered ≡ cover_on d h.slots) (k : shortfall ≡ h.firm - covered) (charges : Charges) (e : charges ≡ charges_of h) where
    -- the shortfall
    shortfall_is : shortfall ≡ shortfall_opened f d
    unfolding shortfall_opened
    shortfall_is = k ∙ rw (c, file-firm, file-slots) refl

    -- what fits
    pub opened-fit : Sound (d - 1) f × (1 ≤ d) × (d ≤ 29219) → (charges.charged < 18446744073709551615) × (charges.accrued + day_charge shortfall < 18446744073709551616)
    opened-fit s =
        charges-fit f (d - 1) charges shortfall s.0 (omega (arith, s.1, s.2)) (e ∙ file-charges)
        (omega (arith, k, firm-bound f (d - 1) d s.0, file-firm))

    -- the whole file
    pub file-opened : (after : Charges) → after ≡ charged_for charges shortfall →
        record {
          admitted = h.admitted;
          leaving = h.leaving;
          role = h.role;
          firm = h.firm;
          slots = h.slots;
          calls = h.calls;
          count = h.count;
          next = h.next;
          totals = h.totals;
          charged = after.charged;
          accrued = after.accrued;
          made = h.made;
        }
        ≡ opened_file f d
    unfolding opened_file calls_opened firm_opened firm_raised next_opened takes_effect open_calls slots_opened next_taken calls_ended calls_passed
    file-opened after a =
        rw (a, e, shortfall_is, taken, ended, slots-is) refl

pub ruleset charges = (charges-after, charged-few)
