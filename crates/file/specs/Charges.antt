-- Paper 01, 'Advance': "then the day is charged". The charges of a file, and the days whose opening changes nothing else of it.
-- Assumes nothing.
use Rattle.std.specs.Prelude.{ℕ, ◌+◌, Bool, cond, ◌||◌, eqb}
use Rattle.std.specs.List.{list_any}
use Rattle.manual.specs.Charge.{day_charge}
use Rattle.file.specs.declared.File.{File}
use Rattle.file.specs.declared.Slot.{Slot}
use Rattle.file.specs.declared.Charges.{Charges}
use Rattle.file.specs.Position.{lapsed_by}
use Rattle.file.specs.Calls.{ends_at}
use Rattle.file.specs.Fields.{open_calls, shortfall_of}
use Rattle.file.specs.Opening.{takes_effect}

-- A file's charges.
abbrev pub charges_of : File → Charges
charges_of f = record { charged = f.charged; accrued = f.accrued }

-- "then the day is charged": the charges after a day with a shortfall, one day more if it is above 0, and the day's charge.
abbrev pub charged_for : Charges → ℕ → Charges
charged_for c shortfall = record { charged = c.charged + cond (eqb shortfall 0) 0 1; accrued = c.accrued + day_charge shortfall }

-- Whether opening day d changes more of the file than its charges: "letters with last day before d are emptied", "each open call with last free day
-- d − 1 is removed", or "d is 1 October and the next amount is set".
unfoldable pub changes_on : ℕ → File → Bool
changes_on d f = list_any (λ (s : Slot). lapsed_by d s.position) f.slots || (list_any (ends_at d) (open_calls f) || takes_effect f d)

-- The charges after day d where its opening changes nothing else: by the firm amount and the positions as they are.
unfoldable pub charges_after : File → ℕ → Charges
charges_after f d = charged_for (charges_of f) (shortfall_of f d)
