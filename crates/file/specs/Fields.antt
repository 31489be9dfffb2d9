-- What is read off a file, and a file with some of its fields changed.
-- Assumes nothing.
use Rattle.std.specs.Prelude.{ℕ, ◌+◌, ◌-◌, true, false, List, length, take}
use Rattle.file.specs.declared.File.{File}
use Rattle.file.specs.declared.Charges.{Charges}
use Rattle.file.specs.declared.Slot.{Slot}
use Rattle.file.specs.declared.OpenCall.{OpenCall}
use Rattle.file.specs.declared.NextAmount.{NextAmount}
use Rattle.file.specs.declared.MonthTotal.{MonthTotal}
use Rattle.file.specs.Position.{cover_on}
use Rattle.file.specs.Calls.{in_places, amounts_of}

-- "Up to four open calls, oldest first".
unfoldable pub open_calls : File → List OpenCall
open_calls f = take f.count f.calls

-- The amounts of the open calls.
abbrev pub open_amounts : File → List ℕ
open_amounts f = amounts_of (open_calls f)

-- The file's cover on a day.
unfoldable pub cover_of : File → ℕ → ℕ
cover_of f d = cover_on d f.slots

-- "Shortfall: firm amount less cover, never below 0."
unfoldable pub shortfall_of : File → ℕ → ℕ
shortfall_of f d = f.firm - cover_of f d

-- "The next amount: the coming period's, or unset."
abbrev pub unset : NextAmount
unset = record { set = false; amount = 0 }

abbrev pub set_to : ℕ → NextAmount
set_to a = record { set = true; amount = a }

-- The file with other positions.
abbrev pub with_slots : File → List Slot → File
with_slots f slots =
    record {
      admitted = f.admitted;
      leaving = f.leaving;
      role = f.role;
      firm = f.firm;
      slots = slots;
      calls = f.calls;
      count = f.count;
      next = f.next;
      totals = f.totals;
      charged = f.charged;
      accrued = f.accrued;
      made = f.made;
    }

-- The file with other month totals, other open calls and n more calls made.
abbrev pub with_totals : File → List MonthTotal → List OpenCall → ℕ → File
with_totals f totals calls n =
    record {
      admitted = f.admitted;
      leaving = f.leaving;
      role = f.role;
      firm = f.firm;
      slots = f.slots;
      calls = in_places calls;
      count = length calls;
      next = f.next;
      totals = totals;
      charged = f.charged;
      accrued = f.accrued;
      made = f.made + n;
    }

-- The file placed under deletion, with other open calls and n more calls made.
abbrev pub with_deletion : File → List OpenCall → ℕ → File
with_deletion f calls n =
    record {
      admitted = f.admitted;
      leaving = true;
      role = f.role;
      firm = f.firm;
      slots = f.slots;
      calls = in_places calls;
      count = length calls;
      next = f.next;
      totals = f.totals;
      charged = f.charged;
      accrued = f.accrued;
      made = f.made + n;
    }

-- The file with another next amount.
abbrev pub with_next : File → NextAmount → File
with_next f next =
    record {
      admitted = f.admitted;
      leaving = f.leaving;
      role = f.role;
      firm = f.firm;
      slots = f.slots;
      calls = f.calls;
      count = f.count;
      next = next;
      totals = f.totals;
      charged = f.charged;
      accrued = f.accrued;
      made = f.made;
    }

-- The file with other charges.
abbrev pub with_charges : File → Charges → File
with_charges f c =
    record {
      admitted = f.admitted;
      leaving = f.leaving;
      role = f.role;
      firm = f.firm;
      slots = f.slots;
      calls = f.calls;
      count = f.count;
      next = f.next;
      totals = f.totals;
      charged = c.charged;
      accrued = c.accrued;
      made = f.made;
    }
