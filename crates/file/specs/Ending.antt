-- Paper 01, 'Advance', of a file by itself: the open calls that end, and the next amount that takes effect.
-- Assumes nothing.
use Rattle.std.specs.Prelude.{ℕ, cond, List, length}
use Rattle.file.specs.declared.File.{File}
use Rattle.file.specs.declared.OpenCall.{OpenCall}
use Rattle.file.specs.Calls.{largest, amounts_of, in_places, keep, ends_at, stays_at}
use Rattle.file.specs.Fields.{open_calls, unset}
use Rattle.file.specs.Opening.{takes_effect}

-- The file with another firm amount and other open calls.
abbrev pub with_calls : File → ℕ → List OpenCall → File
with_calls f firm calls =
    record {
      admitted = f.admitted;
      leaving = f.leaving;
      role = f.role;
      firm = firm;
      slots = f.slots;
      calls = in_places calls;
      count = length calls;
      next = f.next;
      totals = f.totals;
      charged = f.charged;
      accrued = f.accrued;
      made = f.made;
    }

-- What the opening of day d leaves of a file of whose open calls these were passed: "each open call with last free day d − 1 is removed and the
-- firm amount raised to it if lower".
unfoldable pub calls_passed : ℕ → File → List OpenCall → File
calls_passed d f calls = with_calls f (largest f.firm (amounts_of (keep (ends_at d) calls))) (keep (stays_at d) calls)

-- .. of whose open calls all were.
unfoldable pub calls_ended : ℕ → File → File
calls_ended d f = calls_passed d f (open_calls f)

-- "if d is 1 October and the next amount is set, the firm amount becomes it, even if lower, and it is unset".
unfoldable pub next_taken : ℕ → File → File
next_taken d f =
    record {
      admitted = f.admitted;
      leaving = f.leaving;
      role = f.role;
      firm = cond (takes_effect f d) f.next.amount f.firm;
      slots = f.slots;
      calls = f.calls;
      count = f.count;
      next = cond (takes_effect f d) unset f.next;
      totals = f.totals;
      charged = f.charged;
      accrued = f.accrued;
      made = f.made;
    }
