-- The positions of a file of the readings, and such a file with other positions.
-- Assumes nothing.
use Prim.Native.Nat.{ℕ}
use native.Mathlib.Omega.{arith}
use mathlib.Core.Path.{◌≡◌, ap}
use mathlib.Core.Bool.{false}
use mathlib.Core.List.{List}
use lib.Dec.{ltb}
use lib.ListN.{length}
use borrow.Author.Tests.{ltb-false}
use Rattle.laws.specs.Lists.{table}
use Rattle.laws.specs.Tabulated.{table-ext, get_d-table}
use Rattle.file.specs.declared.Position.TheVariants.{Empty}
use Rattle.file.specs.declared.Slot.{Slot}
use Rattle.file.specs.Position.{slot_of, position_at}
use Rattle.file.specs.Calls.{in_places}
use Rattle.file.specs.Fields.{with_slots}
use Rattle.book.specs.Reading.Events.{Own, admitted_in, leaving_in, role_in}
use Rattle.book.specs.Reading.Holdings.{position_in}
use Rattle.book.specs.Reading.Months.{next_in}
use Rattle.book.specs.Reading.Calls.{firm_in, open_in, made_in}
use Rattle.book.specs.Reading.Charges.{charged_in, accrued_in}
use Rattle.book.specs.Kept.{ring_in, file_in}

-- The slots of a file of the readings.
abbrev pub slots_in : ℕ → List Own → List Slot
slots_in t own = table 8 (λ k. slot_of (position_in t k own))

-- At each of the eight places stands what the reading says.
pub position_at_lem : (t k : ℕ) (own : List Own) → ltb 7 k ≡ false → position_at (slots_in t own) k ≡ position_in t k own
position_at_lem t k own place =
    ap (λ (s : Slot). s.position)
    (get_d-table 8 (λ j. slot_of (position_in t j own)) k (slot_of Empty) (omega (arith, ltb-false 7 k place)))

-- A file of the readings with the positions of a history that agrees with it in every other reading.
pub with-slots-of : (t : ℕ) (own new : List Own) (slots : List Slot) → slots ≡ slots_in t new
    → admitted_in own ≡ admitted_in new → leaving_in own ≡ leaving_in new → role_in own ≡ role_in new → firm_in t own ≡ firm_in t new → open_in t own ≡ open_in t new
    → next_in own ≡ next_in new → ((k : ℕ) → ring_in own k ≡ ring_in new k) → charged_in own ≡ charged_in new → accrued_in own ≡ accrued_in new → made_in own ≡ made_in new
    → with_slots (file_in t own) slots ≡ file_in t new
unfolding file_in
with-slots-of t own new slots e_slots e_admitted e_leaving e_role e_firm e_open e_next e_ring e_charged e_accrued e_made =
    let e_totals : table 16 (ring_in own) ≡ table 16 (ring_in new) = table-ext 16 (ring_in own) (ring_in new) (λ k h. e_ring k) in
    λ i.
    record {
      admitted = e_admitted i;
      leaving = e_leaving i;
      role = e_role i;
      firm = e_firm i;
      slots = e_slots i;
      calls = in_places (e_open i);
      count = length (e_open i);
      next = e_next i;
      totals = e_totals i;
      charged = e_charged i;
      accrued = e_accrued i;
      made = e_made i;
    }
