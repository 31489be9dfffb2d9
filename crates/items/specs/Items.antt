-- The itemised statement, read from a participant's calls and the days opened: "for participant P every run of opened days with the same figures on
-- which it was charged: from, to, days, firm amount, cover, shortfall, charge a day, charge of the run; then the sum". Nothing is taken from a book.
-- Assumes nothing.
use Rattle.std.specs.Prelude.{ℕ, zero, suc, ◌+◌, ◌-◌, ◌*◌, ◌<◌, ◌≡◌, Bool, cond, ◌&&◌, false, List, [], ◌∷◌, ◌++◌, eqb}
use Rattle.laws.specs.Lists.{All}
use Rattle.manual.specs.Charge.{day_charge}
use Rattle.book.specs.Reading.Events.{Own}
use Rattle.book.specs.Reading.Holdings.{cover_in}
use Rattle.book.specs.Reading.Calls.{firm_in}
use Rattle.book.specs.Reading.Charges.{before, opening_shortfall, days_since, charged_in, accrued_in}
use Rattle.items.specs.declared.Charged.{Charged}
use Rattle.items.specs.declared.Run.{Run}

-- Day d with the figures of its opening: the firm amount on it, and the cover "at the opening", of the calls made before it.
unfoldable pub day_in : ℕ → List Own → Charged
day_in d own = record { day = record { 0 = d }; firm = firm_in d own; cover = cover_in d (before d own) }

-- Those of some days "whose opening shortfall is above 0".
unfoldable pub charged_among : List ℕ → List Own → List Charged
charged_among [] own = []
charged_among (d ∷ days) own =
    cond (eqb (opening_shortfall d own) 0) (charged_among days own) (day_in d own ∷ charged_among days own)

-- The days on which the participant was charged, of "the days opened since the admission", the newest first.
unfoldable pub charged_days : List Own → List Charged
charged_days own = charged_among (days_since own) own

-- A run of one day.
unfoldable pub begun : Charged → Run
begun c = record { from = c.day; to = c.day; firm = c.firm; cover = c.cover }

-- Whether a day is the one behind the run, and has its figures.
unfoldable pub extends : Charged → Run → Bool
extends c r = eqb c.day.0 (suc r.to.0) && (eqb c.firm r.firm && eqb c.cover r.cover)

-- The run that ends on another day.
unfoldable pub ending : Charged → Run → Run
ending c r = record { from = r.from; to = c.day; firm = r.firm; cover = r.cover }

-- The items with one more charged day: it belongs to the latest item where it extends that one, and begins an item where it does not.
unfoldable pub with_charged : Charged → List Run → List Run
with_charged c [] = begun c ∷ []
with_charged c (r ∷ items) = cond (extends c r) (ending c r ∷ items) (begun c ∷ r ∷ items)

-- The items of charged days, both the newest first.
unfoldable pub items_of : List Charged → List Run
items_of [] = []
items_of (c ∷ days) = with_charged c (items_of days)

-- The items of a participant.
unfoldable pub items_in : List Own → List Run
items_in own = items_of (charged_days own)

-- The days of an item, its shortfall, its charge a day, and "charge of the run".
unfoldable pub days_of : Run → ℕ
days_of r = suc r.to.0 - r.from.0

abbrev pub shortfall_of : Run → ℕ
shortfall_of r = r.firm - r.cover

unfoldable pub charge_a_day : Run → ℕ
charge_a_day r = day_charge (shortfall_of r)

unfoldable pub charge_of : Run → ℕ
charge_of r = days_of r * charge_a_day r

-- "then the sum": the days and the charges of all items.
unfoldable pub sum_of_days : List Run → ℕ
sum_of_days [] = 0
sum_of_days (r ∷ items) = days_of r + sum_of_days items

unfoldable pub sum_of_charges : List Run → ℕ
sum_of_charges [] = 0
sum_of_charges (r ∷ items) = charge_of r + sum_of_charges items

-- The first n days of an item, each with the item's figures, the newest first ..
unfoldable pub first_days : ℕ → Run → List Charged
first_days zero r = []
first_days (suc n) r = record { day = record { 0 = r.from.0 + n }; firm = r.firm; cover = r.cover } ∷ first_days n r

-- .. and all days of the items, written out one by one.
unfoldable pub spelled : List Run → List Charged
spelled [] = []
spelled (r ∷ items) = first_days (days_of r) r ++ spelled items

-- No day stands twice: each is before those that stand in front of it.
abbrev pub Descending : List Charged → Type 0
Descending [] = Unit {0}
Descending (c ∷ days) = All (λ (e : Charged). e.day.0 < c.day.0) days × Descending days

-- Runs are as long as they can be: none begins on the day behind the one before it with the same figures.
abbrev pub Apart : List Run → Type 0
Apart [] = Unit {0}
Apart (r ∷ []) = Unit {0}
Apart (r ∷ q ∷ items) = (extends (record { day = r.from; firm = r.firm; cover = r.cover }) q ≡ false) × Apart (q ∷ items)

-- "the days and charges of the items are those of the reading (`opening_shortfall`, `day_charge`), no charged day is missing or twice, and their sums
-- are the statement's": what the items of a participant promise.
pub record Itemised (own : List Own) : Type 0 where
  -- the days of the items with their figures are the charged days, each once ..
  pub each : spelled (items_in own) ≡ charged_days own
  -- .. whose shortfalls are the reading's
  pub shortfalls : All (λ (c : Charged). c.firm - c.cover ≡ opening_shortfall c.day.0 own) (charged_days own)
  -- no two items could be one
  pub apart : Apart (items_in own)
  -- the sums are the statement's "days charged" and "accrued charge"
  pub days : sum_of_days (items_in own) ≡ charged_in own
  pub charges : sum_of_charges (items_in own) ≡ accrued_in own
