-- Paper 01, 'Advance': what opening day d does to an admitted participant's file.
-- Assumes nothing.
use Rattle.std.specs.Prelude.{ℕ, ◌+◌, ◌-◌, Bool, cond, ◌&&◌, List, map, eqb, length}
use Rattle.calendar.specs.Civil.{is_first_october}
use Rattle.manual.specs.Charge.{day_charge}
use Rattle.file.specs.declared.File.{File}
use Rattle.file.specs.declared.Slot.{Slot}
use Rattle.file.specs.declared.OpenCall.{OpenCall}
use Rattle.file.specs.declared.NextAmount.{NextAmount}
use Rattle.file.specs.Position.{cover_on, emptied_on, slot_of}
use Rattle.file.specs.Calls.{largest, amounts_of, in_places, keep, ends_at, stays_at}
use Rattle.file.specs.Fields.{open_calls, unset}

-- "letters with last day before d are emptied".
unfoldable pub slots_opened : File → ℕ → List Slot
slots_opened f d = map (λ (s : Slot). slot_of (emptied_on d s.position)) f.slots

-- "each open call with last free day d − 1 is removed": those that stay.
unfoldable pub calls_opened : File → ℕ → List OpenCall
calls_opened f d = keep (stays_at d) (open_calls f)

-- ".. and the firm amount raised to it if lower".
unfoldable pub firm_raised : File → ℕ → ℕ
firm_raised f d = largest f.firm (amounts_of (keep (ends_at d) (open_calls f)))

-- "if d is 1 October and the next amount is set".
unfoldable pub takes_effect : File → ℕ → Bool
takes_effect f d = is_first_october d && f.next.set

-- ".. the firm amount becomes it, even if lower, and it is unset".
unfoldable pub firm_opened : File → ℕ → ℕ
firm_opened f d = cond (takes_effect f d) f.next.amount (firm_raised f d)

unfoldable pub next_opened : File → ℕ → NextAmount
next_opened f d = cond (takes_effect f d) unset f.next

-- "then the day is charged": the shortfall on d.
unfoldable pub shortfall_opened : File → ℕ → ℕ
shortfall_opened f d = firm_opened f d - cover_on d (slots_opened f d)

-- The file after day d was opened.
unfoldable pub opened_file : File → ℕ → File
opened_file f d =
    record {
      admitted = f.admitted;
      leaving = f.leaving;
      role = f.role;
      firm = firm_opened f d;
      slots = slots_opened f d;
      calls = in_places (calls_opened f d);
      count = length (calls_opened f d);
      next = next_opened f d;
      totals = f.totals;
      charged = f.charged + cond (eqb (shortfall_opened f d) 0) 0 1;
      accrued = f.accrued + day_charge (shortfall_opened f d);
      made = f.made;
    }
