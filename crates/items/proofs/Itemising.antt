-- The items of a participant are its charged days, put together in runs: written out one by one they are those days again, so their sums are the
-- reading's.
-- Assumes nothing.
use Prim.Native.Nat.{ℕ, zero, suc, ◌+◌, ◌-◌, ◌*◌, ◌≤◌, max}
use native.Mathlib.Nat.{add_assoc}
use native.Mathlib.Omega.{arith}
use mathlib.Core.Path.{◌≡◌, refl, sym, ap, ap₂, ◌∙◌}
use mathlib.Core.Bool.{true, ◌&&◌}
use mathlib.Core.List.{List, [], ◌∷◌, ◌++◌}
use lib.Dec.{eqb}
use lib.ListN.{length}
use borrow.Author.Tests.{eqb-true}
use Rattle.std.proofs.Common.{length-append}
use Rattle.laws.specs.Cases.{split, by-test, and_left, and_right, cond-true}
use Rattle.laws.specs.Lists.{All}
use Rattle.manual.specs.Charge.{day_charge}
use Rattle.book.specs.Reading.Events.{Own}
use Rattle.book.specs.Reading.Charges.{opening_shortfall, days_since, count_short, sum_charges, charged_in, accrued_in}
use Rattle.items.specs.declared.Charged.{Charged}
use Rattle.items.specs.declared.Run.{Run}
use Rattle.items.specs.Items.{day_in, charged_among, charged_days, begun, extends, ending, with_charged, items_of, items_in, days_of, charge_a_day, charge_of}
use Rattle.items.specs.Items.{sum_of_days, sum_of_charges, first_days, spelled, Apart, Itemised}

-- A charged day from its parts.
charged_path : (c e : Charged) → c.day.0 ≡ e.day.0 → c.firm ≡ e.firm → c.cover ≡ e.cover → c ≡ e
charged_path c e p q r = λ i. record { day = record { 0 = p i }; firm = q i; cover = r i }

-- What a day that extends a run has.
record Extends (c : Charged) (r : Run) : Type 0 where
  day : c.day.0 ≡ suc r.to.0
  firm : c.firm ≡ r.firm
  cover : c.cover ≡ r.cover

extends-as : (c : Charged) (r : Run) → extends c r ≡ true → Extends c r
unfolding extends
extends-as c r e =
    let same = and_right (eqb c.day.0 (suc r.to.0)) (eqb c.firm r.firm && eqb c.cover r.cover) e in
    record {
      day = eqb-true c.day.0 (suc r.to.0) (and_left (eqb c.day.0 (suc r.to.0)) (eqb c.firm r.firm && eqb c.cover r.cover) e);
      firm = eqb-true c.firm r.firm (and_left (eqb c.firm r.firm) (eqb c.cover r.cover) same);
      cover = eqb-true c.cover r.cover (and_right (eqb c.firm r.firm) (eqb c.cover r.cover) same);
    }

-- A run ends on its first day or later.
abbrev Forward : Run → Type 0
Forward r = r.from.0 ≤ r.to.0

forward-with : (c : Charged) (items : List Run) → All Forward items → All Forward (with_charged c items)
unfolding with_charged begun ending
forward-with c [] a = (omega arith, tt)
forward-with c (r ∷ items) a =
    by-test (extends c r) (ending c r ∷ items) (begun c ∷ r ∷ items) (All Forward)
    (λ e. (omega (arith, (extends-as c r e).day, a.0), a.1))
    (λ e. (omega arith, a))

forward-all : (days : List Charged) → All Forward (items_of days)
unfolding items_of
forward-all [] = tt
forward-all (c ∷ days) = forward-with c (items_of days) (forward-all days)

-- The first days of a run are those of the run that ends later.
first-of-ending : (n : ℕ) (c : Charged) (r : Run) → first_days n (ending c r) ≡ first_days n r
unfolding first_days ending
first-of-ending zero c r = refl
first-of-ending (suc n) c r = ap (λ (days : List Charged). record { day = record { 0 = r.from.0 + n }; firm = r.firm; cover = r.cover } ∷ days) (first-of-ending n c r)

-- One charged day more, written out.
spelled-begun : (c : Charged) (items : List Run) → spelled (begun c ∷ items) ≡ c ∷ spelled items
unfolding spelled days_of first_days begun
spelled-begun c items =
    let one : suc c.day.0 - c.day.0 ≡ 1 = omega arith in
    let same : c.day.0 + 0 ≡ c.day.0 = omega arith in
    ap (λ (n : ℕ). first_days n (begun c) ++ spelled items) one
    ∙ ap (λ (d : ℕ). record { day = record { 0 = d }; firm = c.firm; cover = c.cover } ∷ spelled items) same

days-ending : (c : Charged) (r : Run) → days_of (ending c r) ≡ suc c.day.0 - r.from.0
unfolding days_of ending
days-ending c r = refl

spelled-ending : (c : Charged) (r : Run) (items : List Run) → Forward r → extends c r ≡ true
    → spelled (ending c r ∷ items) ≡ c ∷ spelled (r ∷ items)
unfolding spelled days_of first_days
spelled-ending c r items h e =
    let x = extends-as c r e in
    let n : ℕ = suc r.to.0 - r.from.0 in
    let more : suc c.day.0 - r.from.0 ≡ suc n = omega (arith, x.day) in
    let last : r.from.0 + n ≡ c.day.0 = omega (arith, x.day) in
    let days : days_of (ending c r) ≡ suc n = days-ending c r ∙ more in
    let here : Charged = record { day = record { 0 = r.from.0 + n }; firm = r.firm; cover = r.cover } in
    ap (λ (k : ℕ). first_days k (ending c r) ++ spelled items) days
    ∙ ap (λ (l : List Charged). l ++ spelled items) (first-of-ending (suc n) c r)
    ∙ ap (λ (d : Charged). d ∷ (first_days n r ++ spelled items)) (charged_path here c last (sym x.firm) (sym x.cover))

spelled-with : (c : Charged) (items : List Run) → All Forward items → spelled (with_charged c items) ≡ c ∷ spelled items
unfolding with_charged
spelled-with c [] a = spelled-begun c []
spelled-with c (r ∷ items) a =
    by-test (extends c r) (ending c r ∷ items) (begun c ∷ r ∷ items) (λ (l : List Run). spelled l ≡ c ∷ spelled (r ∷ items))
    (spelled-ending c r items a.0)
    (λ e. spelled-begun c (r ∷ items))

pub spelled-all : (days : List Charged) → spelled (items_of days) ≡ days
unfolding items_of
spelled-all [] = unfold spelled in refl
spelled-all (c ∷ days) = spelled-with c (items_of days) (forward-all days) ∙ ap (λ (l : List Charged). c ∷ l) (spelled-all days)

-- No two items could be one.
apart-with : (c : Charged) (items : List Run) → Apart items → Apart (with_charged c items)
unfolding with_charged begun ending
apart-with c [] a = tt
apart-with c (r ∷ []) a = by-test (extends c r) (ending c r ∷ []) (begun c ∷ r ∷ []) Apart (λ e. tt) (λ e. (e, tt))
apart-with c (r ∷ q ∷ items) a =
    by-test (extends c r) (ending c r ∷ q ∷ items) (begun c ∷ r ∷ q ∷ items) Apart (λ e. (a.0, a.1)) (λ e. (e, a))

apart-all : (days : List Charged) → Apart (items_of days)
unfolding items_of
apart-all [] = tt
apart-all (c ∷ days) = apart-with c (items_of days) (apart-all days)

-- The charges of days, added.
unfoldable charges : List Charged → ℕ
charges [] = 0
charges (c ∷ days) = day_charge (c.firm - c.cover) + charges days

charges-append : (a b : List Charged) → charges (a ++ b) ≡ charges a + charges b
unfolding charges
charges-append [] b = omega arith
charges-append (c ∷ a) b =
    ap (λ (n : ℕ). day_charge (c.firm - c.cover) + n) (charges-append a b) ∙ sym (add_assoc (day_charge (c.firm - c.cover)) (charges a) (charges b))

-- Of a run.
count-of-run : (n : ℕ) (r : Run) → length (first_days n r) ≡ n
unfolding first_days
count-of-run zero r = refl
count-of-run (suc n) r = ap suc (count-of-run n r)

charges-of-run : (n : ℕ) (r : Run) → charges (first_days n r) ≡ n * charge_a_day r
unfolding charges first_days charge_a_day
charges-of-run zero r = omega arith
charges-of-run (suc n) r = omega (arith, charges-of-run n r)

-- The sums of items are those of their days.
days-spelled : (items : List Run) → sum_of_days items ≡ length (spelled items)
unfolding sum_of_days spelled
days-spelled [] = refl
days-spelled (r ∷ items) = omega (arith, days-spelled items, length-append (first_days (days_of r) r) (spelled items), count-of-run (days_of r) r)

charges-spelled : (items : List Run) → sum_of_charges items ≡ charges (spelled items)
unfolding sum_of_charges spelled charges charge_of
charges-spelled [] = refl
charges-spelled (r ∷ items) =
    ap₂ ◌+◌ (sym (charges-of-run (days_of r) r)) (charges-spelled items) ∙ sym (charges-append (first_days (days_of r) r) (spelled items))

-- .. and the sums of the charged days are the reading's.
count-charged : (days : List ℕ) (own : List Own) → length (charged_among days own) ≡ count_short days own
unfolding charged_among count_short
count-charged [] own = refl
count-charged (d ∷ days) own =
    split (eqb (opening_shortfall d own) 0) (λ e. rw e (omega (arith, count-charged days own))) (λ e. rw e (omega (arith, count-charged days own)))

none-charged : (s : ℕ) → eqb s 0 ≡ true → day_charge s ≡ 0
unfolding day_charge
none-charged s e = cond-true (eqb s 0) 0 (max s 100000000) e

charges-charged : (days : List ℕ) (own : List Own) → charges (charged_among days own) ≡ sum_charges days own
unfolding charged_among sum_charges charges day_in opening_shortfall
charges-charged [] own = refl
charges-charged (d ∷ days) own =
    split (eqb (opening_shortfall d own) 0)
    (λ e. rw e (omega (arith, charges-charged days own, none-charged (opening_shortfall d own) e)))
    (λ e. rw e (ap (λ (n : ℕ). day_charge (opening_shortfall d own) + n) (charges-charged days own)))

-- Their shortfalls, too.
shortfalls-charged : (days : List ℕ) (own : List Own) → All (λ (c : Charged). c.firm - c.cover ≡ opening_shortfall c.day.0 own) (charged_among days own)
unfolding charged_among day_in opening_shortfall
shortfalls-charged [] own = tt
shortfalls-charged (d ∷ days) own =
    by-test (eqb (opening_shortfall d own) 0) (charged_among days own) (day_in d own ∷ charged_among days own)
    (All (λ (c : Charged). c.firm - c.cover ≡ opening_shortfall c.day.0 own))
    (λ e. shortfalls-charged days own)
    (λ e. (refl, shortfalls-charged days own))

-- The items of every participant.
pub itemised : (own : List Own) → Itemised own
unfolding items_in charged_days charged_in accrued_in
itemised own =
    let days = charged_among (days_since own) own in
    record {
      each = spelled-all days;
      shortfalls = shortfalls-charged (days_since own) own;
      apart = apart-all days;
      days = days-spelled (items_of days) ∙ ap length (spelled-all days) ∙ count-charged (days_since own) own;
      charges = charges-spelled (items_of days) ∙ ap charges (spelled-all days) ∙ charges-charged (days_since own) own;
    }
