-- The items as they are kept while the days of a history are opened: the latest item, which may become longer, and the sums of those before it.
-- Assumes nothing.
use Rattle.std.specs.Prelude.{ℕ, ◌+◌, min, cond, List, [], ◌∷◌, Option, Some, None}
use Rattle.file.specs.declared.File.{File}
use Rattle.items.specs.declared.Charged.{Charged}
use Rattle.items.specs.declared.Run.{Run}
use Rattle.items.specs.declared.Items.{Items}
use Rattle.items.specs.Items.{begun, extends, ending, days_of, charge_of, sum_of_days, sum_of_charges}
use Rattle.items.specs.ByBook.{day_by, charged_by}

-- A number as a word of 64 bits holds it: one that is too large for it counts as the largest.
unfoldable pub in_word : ℕ → ℕ
in_word n = min n 18446744073709551615

-- What is kept of items, the newest first.
unfoldable pub state_of : List Run → Items
state_of [] = record { run = None; days = 0; mills = 0 }
state_of (r ∷ items) = record { run = Some r; days = in_word (sum_of_days items); mills = in_word (sum_of_charges items) }

-- The day today where its opening, which left the file so, charged it.
unfoldable pub charged_on : File → ℕ → Option Charged
charged_on f d = cond (charged_by f d) (Some (day_by f d)) None

-- The sums with those of the latest item.
abbrev pub days_with : ℕ → Option Run → ℕ
days_with n None = n
days_with n (Some r) = in_word (n + days_of r)

abbrev pub mills_with : ℕ → Option Run → ℕ
mills_with n None = n
mills_with n (Some r) = in_word (n + charge_of r)

-- "then the sum": the days and the charges of all items.
unfoldable pub all_days : Items → ℕ
all_days s = days_with s.days s.run

unfoldable pub all_mills : Items → ℕ
all_mills s = mills_with s.mills s.run

-- What is kept once a day begins an item.
unfoldable pub begun_behind : Charged → Items → Items
begun_behind c s = record { run = Some (begun c); days = all_days s; mills = all_mills s }

-- .. and after one more charged day, by the latest item.
abbrev pub state_joined : Charged → Items → Option Run → Items
state_joined c s None = begun_behind c s
state_joined c s (Some r) = cond (extends c r) (record { run = Some (ending c r); days = s.days; mills = s.mills }) (begun_behind c s)

unfoldable pub state_with : Charged → Items → Items
state_with c s = state_joined c s s.run

-- What is kept after a day was opened, which charged a participant or did not.
abbrev pub state_if : Option Charged → Items → Items
state_if None s = s
state_if (Some c) s = state_with c s

unfoldable pub state_after : File → ℕ → Items → Items
state_after f d s = state_if (charged_on f d) s
