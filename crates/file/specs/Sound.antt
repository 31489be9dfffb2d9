-- What every file that a book reaches has, and that a method may ask of its file: the bounds of its quantities on day t.
-- Assumes nothing.
use Rattle.std.specs.Prelude.{ℕ, ◌+◌, ◌*◌, ◌≤◌, ◌≡◌, nat_abs}
use Rattle.laws.specs.Lists.{All}
use Rattle.file.specs.declared.File.{File}
use Rattle.file.specs.declared.Position.{Position}
use Rattle.file.specs.declared.Position.TheVariants.{Empty, Cash, Letter}
use Rattle.file.specs.declared.Slot.{Slot}
use Rattle.file.specs.declared.OpenCall.{OpenCall}
use Rattle.file.specs.declared.MonthTotal.{MonthTotal}
use Rattle.file.specs.Calls.{in_places}
use Rattle.file.specs.Fields.{open_calls}

-- The largest month total, called amount and firm amount: 16 figures of 10^12 cents.
abbrev pub total_bound : ℕ
total_bound = 16000000000000

-- "Amount 1 to 10^12. A letter's first day isn't after its last, and its last is .. at most 29,219."
abbrev pub SoundPosition : Position → Type 0
SoundPosition Empty = Unit {0}
SoundPosition (Cash a) = (1 ≤ a) × (a ≤ 1000000000000)
SoundPosition (Letter a first last) = (1 ≤ a) × (a ≤ 1000000000000) × (first.0 ≤ last.0) × (last.0 ≤ 29219)

pub record SoundCall (c : OpenCall) : Type 0 where
  pub amount : c.amount ≤ total_bound
  pub last : c.last.0 ≤ 29229

-- A file's bounds on day t; the places behind the open calls hold zeros. The calls made are those that are open and those that ended, at most four on
-- each day that was opened; days are counted from day 0, since a file doesn't tell the fresh book's day.
pub record Sound (t : ℕ) (f : File) : Type 0 where
  pub day : t ≤ 29219
  pub slots : All (λ (s : Slot). SoundPosition s.position) f.slots
  pub calls : All SoundCall f.calls
  pub count : f.count ≤ 4
  pub places : f.calls ≡ in_places (open_calls f)
  pub firm : f.firm ≤ total_bound
  pub next : f.next.amount ≤ total_bound
  pub totals : All (λ (r : MonthTotal). nat_abs r.total ≤ total_bound) f.totals
  pub charged : f.charged ≤ t
  pub accrued : f.accrued ≤ f.charged * total_bound
  pub counted : f.count ≤ f.made
  pub made : f.made ≤ 4 * t + f.count
